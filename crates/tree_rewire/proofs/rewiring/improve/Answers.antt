use Rattle.tree_rewire.proofs.Words.{◌≡◌, ◌+◌, ◌<◌, ◌≤◌, ◌^◌, ℕ, ap, arith, inl, inr, refl, subst, sym, ◌∙◌, cost_of, IsAllowedEdge, TreeOf, cost_in, tree_word}
use Rattle.tree_rewire.proofs.Words.{sees, setup_in, NamesLowered, cost_seen}
use Rattle.tree_rewire.proofs.CostSteps.{PassSees-lower, PassSees-refl, PassSees-trans}
use Rattle.tree_rewire.proofs.LoweredCosts.{MayLower-less}
use Rattle.tree_rewire.proofs.PostedFalls.{HasPostedGoals-lower}
use Rattle.tree_rewire.proofs.SeenCosts.{SeesPair-later, pair_low, stands_later}
use Rattle.tree_rewire.proofs.WholeShares.{HasWholeShare-later, on_ok}
use Rattle.tree_rewire.proofs.rewiring.improve.Goals as goal

-- the cost in a tree word is at most what was put into it
put_cost : (parent cost : ℕ) → parent < 2 ^ 18 → cost_in (tree_word parent cost) ≤ cost
put_cost parent cost small = omega (arith, small)

pub lowers-init : goal.lowers-init
lowers-init c = record {
  steps = PassSees-refl NamesLowered c.args.shared.now c.args.pass.now c.requires.belongs;
  others = λ m apart. refl;
  pair = c.requires.pair;
  goals = λ all posted. posted;
  whole = λ all. inl (λ name. refl);
}

pub lower-found-requires-clause-may : goal.lower-found-requires-clause-may
lower-found-requires-clause-may c =
    let before = c.args.pass.now.view in
    let now = c.lowers.pass.view in
    let h = c.lowers.invariant in
    let goes_on = h.steps.sees_anew.goes_on in
    MayLower-less now c.args.node c.args.parent (c.seen_cost.result + c.cost.result) c.args.to c.args.from
    (stands_later before now goes_on c.args.node c.args.to c.requires.node) h.pair
    (stands_later before now goes_on c.args.parent c.args.from c.requires.parent) (SeesPair-later before now goes_on c.args.parent c.requires.parent_pair)
    (subst (λ r. IsAllowedEdge (setup_in r) c.args.from c.args.to) (sym goes_on.later.run) c.requires.edge)
    (omega (arith, c.seen_cost.ensures, c.cost.ensures.value, ap cost_in (h.others c.args.parent c.requires.apart)))
    (omega (arith, c.lowers-test.true, c.seen_cost-in-lowers.ensures))

pub lowers-preserved : goal.lowers-preserved
lowers-preserved c =
    let h = c.lowers.invariant in
    let lower = c.lower-found.ensures in
    record {
      steps = PassSees-trans h.steps
          (PassSees-lower c.args.shared.now c.lowers.pass c.lower-found.new.pass c.args.node _ _ c.lower-found.result h.steps.belongs
          lower.kept lower.view_found lower.goes_on lower.seen lower.shown);
      others = λ m apart. lower.seen.others (TreeOf m) (λ e. apart (let own : m ≡ c.args.node = cc in own)) ∙ h.others m apart;
      pair = lower.falls.written;
      goals = λ all posted.
          let lawful = h.steps.sees_anew.goes_on.lawful in
          HasPostedGoals-lower c.lowers.pass.view c.lower-found.new.pass.view c.args.node c.args.parent _ _ c.lower-found.result
          (omega (arith, pair_low c.args.pass.now.view c.args.parent c.requires.belongs.lawful c.requires.parent_pair, c.requires.belongs.lawful.run.marks))
          (omega (arith, c.lowers-test.true, c.seen_cost-in-lowers.ensures, (lawful.pairs c.args.node h.pair).low)) lower.goes_on lower.seen
          (lower.whole (HasWholeShare-later h.steps.sees_anew all)) lower.lowered lower.posted (h.goals all posted);
      whole = λ all.
          let before = c.args.pass.now.view in
          let now = c.lowers.pass.view in
          let most : ℕ = c.seen_cost.result + c.cost.result in
          let most_is : most ≡ cost_seen before c.args.parent + cost_of c.args.from c.args.to =
          omega (arith, c.seen_cost.ensures, c.cost.ensures.value) in
          elim (h.whole all) [
            | inl same ↦
                let here = on_ok c.lower-found.result (sees c.lower-found.new.pass.view (TreeOf c.args.node) ≡ tree_word c.args.parent most)
                (lower.whole (HasWholeShare-later h.steps.sees_anew all)) lower.lowered in
                inr (record {
                  here = here ∙ ap (tree_word c.args.parent) most_is;
                  others = λ name off. lower.seen.others name off ∙ same name;
                })
            | inr writes ↦
                let small : c.args.parent < 2 ^ 18 =
                omega (arith, pair_low before c.args.parent c.requires.belongs.lawful c.requires.parent_pair, c.requires.belongs.lawful.run.marks) in
                absurd (omega (
                  arith,
                  c.lowers-test.true,
                  c.seen_cost-in-lowers.ensures,
                  ap cost_in writes.here,
                  put_cost c.args.parent (cost_seen before c.args.parent + cost_of c.args.from c.args.to) small,
                  most_is,
                ))
          ];
    }

pub returns-clause-whole : goal.returns-clause-whole
returns-clause-whole c =
    λ all less. elim (c.lowers.invariant.whole all) [
      | inl same ↦
          absurd (omega (
            arith,
            less,
            c.lowers-test.false,
            c.seen_cost-in-lowers.ensures,
            c.seen_cost.ensures,
            c.cost.ensures.value,
            ap cost_in (same (TreeOf c.args.node)),
          ))
      | inr writes ↦ writes
    ]
