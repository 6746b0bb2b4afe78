use Rattle.grown_runs.proofs.Words.{Some, sym, ap, ◌∙◌, sizes_in, words_in, point_in}
use Rattle.grown_runs.proofs.Ways.NodesBelow.{here_seen, here_stands, here_within}
use Rattle.grown_runs.proofs.kd_links.LinkedNodesKdTree.point.Goals as goal

pub point-requires : goal.point-requires
point-requires c =
    let words = c.args.self.now.words.now in
    here_within (sizes_in words.places) (words_in words) c.args.self.now.below c.args.node
    (here_seen (sizes_in words.places) (words_in words) c.args.self.now.below c.requires.may c.args.node c.requires.seen_node)

pub returns-clause-stands : goal.returns-clause-stands
returns-clause-stands c =
    let words = c.args.self.now.words.now in
    here_stands (sizes_in words.places) (words_in words) c.args.self.now.below c.args.node
    (here_seen (sizes_in words.places) (words_in words) c.args.self.now.below c.requires.may c.args.node c.requires.seen_node)
    ∙ ap Some (sym (c.point_in.ensures ∙ ap point_in c.point.ensures))
