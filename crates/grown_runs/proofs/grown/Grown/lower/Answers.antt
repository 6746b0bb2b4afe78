use Rattle.grown_runs.proofs.Words.{arith, ap, ◌∙◌, subst, words_of_grown, sizes_of, sizes_in, words_in, WritesWord, TreeOf, Sizes, tree_word}
use Rattle.grown_runs.proofs.Runs.GrownPoints.{has_node-present, present-within}
use Rattle.grown_runs.proofs.Runs.LoweredWords.{CostsInstead-exchanged, HoldRun-lowered, children-kept}
use Rattle.grown_runs.proofs.grown.Grown.lower.Goals as goal

pub pack_tree-word-requires : goal.pack_tree-word-requires
pack_tree-word-requires c = record { parent = omega (arith, c.parent.ensures); cost = omega (arith, c.requires.not_above) }

pub set_tree-requires : goal.set_tree-requires
set_tree-requires c =
    let old = c.args.self.now in
    omega (arith, ap (λ (s : Sizes). s.marks) old.of_task, present-within (sizes_of old.task) (words_of_grown old) c.args.node c.requires.present)

pub invariant_of-self : goal.invariant_of-self
invariant_of-self c =
    let old = c.args.self.now in
    let packed = c.pack_tree-word.ensures ∙ ap (λ parent. tree_word parent c.args.cost) c.parent.ensures in
    let writes =
    subst (λ word. WritesWord (TreeOf c.args.node) word (words_of_grown old) (words_in c.set_tree.new.self)) packed c.set_tree.ensures.word in
    record {
      of_task = ap sizes_in c.set_tree.ensures.places ∙ old.of_task;
      hold_run =
          HoldRun-lowered old.task old.limit (words_of_grown old) _ c.args.node c.args.cost
          (record { writes = writes; low = omega (arith, c.requires.not_above) }) c.requires.not_above c.requires.above_parent
          (has_node-present (sizes_of old.task) (words_of_grown old) c.args.node c.requires.present) old.hold_run;
    }

pub returns-clause-state : goal.returns-clause-state
returns-clause-state c =
    let old = c.args.self.now in
    let packed = c.pack_tree-word.ensures ∙ ap (λ parent. tree_word parent c.args.cost) c.parent.ensures in
    let writes =
    subst (λ word. WritesWord (TreeOf c.args.node) word (words_of_grown c.args.self.now) (words_in c.set_tree.new.self)) packed
    c.set_tree.ensures.word in
    CostsInstead-exchanged (sizes_of old.task) (words_of_grown old) _ c.args.node c.args.cost
    (record { writes = writes; low = omega (arith, c.requires.not_above) })

pub returns-clause-children : goal.returns-clause-children
returns-clause-children c =
    let old = c.args.self.now in
    children-kept (sizes_of old.task) (words_of_grown old) _ c.args.node c.set_tree.ensures.word.others
