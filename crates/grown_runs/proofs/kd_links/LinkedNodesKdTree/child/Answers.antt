use Rattle.grown_runs.proofs.Words.{arith, ◌∙◌, sizes_in, words_in}
use Rattle.grown_runs.proofs.Ways.NodesBelow.{child_within, here_seen, here_within}
use Rattle.grown_runs.proofs.kd_links.LinkedNodesKdTree.child.Goals as goal

pub child-child-requires : goal.child-child-requires
child-child-requires c =
    let words = c.args.self.now.words.now in
    here_within (sizes_in words.places) (words_in words) c.args.self.now.below c.args.node
    (here_seen (sizes_in words.places) (words_in words) c.args.self.now.below c.requires.may c.args.node c.requires.seen_node)

-- a child is a node, so its number is low
pub overflow_cast-result : goal.overflow_cast-result
overflow_cast-result c =
    let words = c.args.self.now.words.now in
    let within = child_within (sizes_in words.places) (words_in words) c.args.self.now.below c.requires.may c.args.node c.args.right
    (λ none. c.if-child-eq0.false (c.child-child.ensures ∙ none)) in
    omega (arith, within, c.child-child.ensures, words.places.few_marks)
