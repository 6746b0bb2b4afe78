use Rattle.plan_words.proofs.Words.{ℕ, ◌<◌, ◌≤◌, ◌^◌, length, sym, ap, ◌∙◌, subst, inl, inr, arith, slice_index, slice_set, cases_eq, get_or-set_other}
use Rattle.plan_words.proofs.Words.{get_or-set_same, length-set, later_word, Falling, parent_in}
use Rattle.plan_words.proofs.Joining.{later_word-either}
use Rattle.plan_words.proofs.shared.take_cheaper.Goals as goal

pub set-requires-clause-parent : goal.set-requires-clause-parent
set-requires-clause-parent c =
    let kept = c.loop-node.invariant in
    let others = c.args.others.now in
    let pairs = c.loop-node.pairs in
    let node = c.loop-node.node in
    let one = c.word.ensures ∙ kept.left node (omega arith) in
    let below = λ (w : ℕ). 2 ^ 63 ≤ w → parent_in w < length pairs in
    let own : below c.word.result = λ written.
    omega (arith, kept.sized, ap parent_in one, c.requires.parents node (subst (λ w. 2 ^ 63 ≤ w) one written)) in
    let theirs : below c.word-in-loop-node.result = λ written.
    omega (
      arith,
      kept.sized,
      ap parent_in c.word-in-loop-node.ensures,
      c.requires.parents_too node (subst (λ w. 2 ^ 63 ≤ w) c.word-in-loop-node.ensures written),
    ) in
    subst below (sym c.later_pair-word.ensures) (later_word-either below c.word.result c.word-in-loop-node.result own theirs)

pub loop-node-preserved : goal.loop-node-preserved
loop-node-preserved c =
    let kept = c.loop-node.invariant in
    let pairs = c.loop-node.pairs in
    let was = c.args.pairs.now in
    let others = c.args.others.now in
    let node = c.loop-node.node in
    let x = c.later_pair-word.result in
    let low : node < length pairs = omega (arith, kept.sized, c.requires.sized, c.loop-node-test.true) in
    let one = c.word.ensures ∙ kept.left node (omega arith) in
    rw c.set.ensures
    (record {
      sized = length-set pairs node x ∙ kept.sized;
      taken = λ n below.
          elim (cases_eq n node) [
            | inl e ↦
                ap (slice_index (slice_set pairs node x)) e ∙ get_or-set_same pairs node x 0 low ∙ c.later_pair-word.ensures
                ∙ ap (λ w. later_word Falling w c.word-in-loop-node.result) one
                ∙ ap (later_word Falling (slice_index was node)) c.word-in-loop-node.ensures
                ∙ ap (λ i. later_word Falling (slice_index was i) (slice_index others i)) (sym e)
            | inr apart ↦ get_or-set_other pairs node n x 0 apart ∙ kept.taken n (omega (arith, below, apart))
          ];
      left = λ n from. get_or-set_other pairs node n x 0 (λ e. omega (arith, e, from)) ∙ kept.left n (omega (arith, from));
    })
