use Rattle.tree_rewire.proofs.Words.{◌+◌, ◌∙◌, ap, arith, inl, inr, subst, sym, IfSome, cases_lt, cost_of, PointOf, TreeOf, parent_in, SeesAsBefore, IsPairIn}
use Rattle.tree_rewire.proofs.Words.{HasWholeShare, sees, NamesPoint, PassSees}
use Rattle.tree_rewire.proofs.CostSteps.{PassSees-any_point, PassSees-trans}
use Rattle.tree_rewire.proofs.LoweredCosts.{IsWithinSeenParent-parent, MayLower-parent}
use Rattle.tree_rewire.proofs.SeenCosts.{pair_low, stands_later}
use Rattle.tree_rewire.proofs.WholeShares.{HasWholeShare-later, SeesAsBefore-loaded, SeesAsBefore-trans}
use Rattle.tree_rewire.proofs.spreading.looser.Goals as goal
use Rattle.tree_rewire.proofs.spreading.looser.Goals.{After-costs_less_through}

pub pair-requires : goal.pair-requires
pair-requires c = pair_low c.args.pass.now.view c.args.node c.requires.belongs.lawful c.requires.pair

-- both points are loaded
loads : (c : After-costs_less_through) → PassSees NamesPoint c.args.shared.now c.args.pass.now c.point-there.new.pass
loads c =
    let one = PassSees-any_point c.args.shared.now c.args.pass.now c.point-here.new.pass c.args.node _ _ c.requires.belongs c.point-here.ensures.view
    c.point-here.ensures.goes_on c.point-here.ensures.seen c.point-here.ensures.looked in
    let other = PassSees-any_point c.args.shared.now c.point-here.new.pass c.point-there.new.pass c.unwrap-parent.result.0 _ _ one.belongs
    c.point-there.ensures.view c.point-there.ensures.goes_on c.point-there.ensures.seen c.point-there.ensures.looked in
    PassSees-trans one other

-- with the whole share they are found as they were seen
wholes : (c : After-costs_less_through) → HasWholeShare c.args.pass.now.view → SeesAsBefore c.args.pass.now.view c.point-there.new.pass.view
wholes c all =
    let old = c.args.pass.now.view in
    let mid = c.point-here.new.pass.view in
    let new = c.point-there.new.pass.view in
    let one = PassSees-any_point c.args.shared.now c.args.pass.now c.point-here.new.pass c.args.node _ _ c.requires.belongs c.point-here.ensures.view
    c.point-here.ensures.goes_on c.point-here.ensures.seen c.point-here.ensures.looked in
    SeesAsBefore-trans old mid new
    (SeesAsBefore-loaded old mid (PointOf c.args.node) _ c.point-here.ensures.seen (c.point-here.ensures.whole all))
    (SeesAsBefore-loaded mid new (PointOf c.unwrap-parent.result.0) _ c.point-there.ensures.seen
    (c.point-there.ensures.whole (HasWholeShare-later one.sees_anew all)))

pub returns-then-costs_less_through : goal.returns-then-costs_less_through
returns-then-costs_less_through c =
    let here = (goal.at.returns-then-costs_less_through c).After-costs_less_through in
    let steps = loads here in
    let seen = steps.sees_anew in
    let new = c.point-there.new.pass.view in
    let pair = subst (λ o. IfSome o (IsPairIn (sees c.args.pass.now.view (TreeOf c.args.node)))) c.unwrap-parent.ensures c.pair.ensures.found in
    record {
      steps = steps;
      some = MayLower-parent c.args.pass.now.view new c.args.node c.unwrap-parent.result.0 c.unwrap-parent.result.1 c.in_ok-above.above _
          c.point-here.result c.point-there.result seen.goes_on.lawful (λ m. seen.others (TreeOf m) (λ no. no)) pair c.in_ok-above.ensures.found
          (stands_later c.point-here.new.pass.view new c.point-there.ensures.goes_on c.args.node c.point-here.result c.point-here.ensures.found)
          c.point-there.ensures.found (c.in_ok-above.above + c.cost.result) (omega (arith, c.cost.ensures.value))
          (omega (arith, c.cost.ensures.value, c.costs_less_through.ensures.0 c.if-costs_less_through.true));
      parent = pair.parent ∙ ap parent_in (sym (seen.others (TreeOf c.args.node) (λ no. no)));
      none = tt;
      whole = wholes here;
    }

pub returns-else-costs_less_through : goal.returns-else-costs_less_through
returns-else-costs_less_through c =
    let here = (goal.at.returns-else-costs_less_through c).After-costs_less_through in
    let steps = loads here in
    let seen = steps.sees_anew in
    let new = c.point-there.new.pass.view in
    let pair = subst (λ o. IfSome o (IsPairIn (sees c.args.pass.now.view (TreeOf c.args.node)))) c.unwrap-parent.ensures c.pair.ensures.found in
    record {
      steps = steps;
      some = tt;
      parent = tt;
      none = IsWithinSeenParent-parent c.args.pass.now.view new c.args.node c.unwrap-parent.result.0 c.unwrap-parent.result.1 c.in_ok-above.above _
          c.point-here.result c.point-there.result seen.goes_on.lawful (λ m. seen.others (TreeOf m) (λ no. no)) pair c.in_ok-above.ensures.found
          (stands_later c.point-here.new.pass.view new c.point-there.ensures.goes_on c.args.node c.point-here.result c.point-here.ensures.found)
          c.point-there.ensures.found
          (elim (cases_lt (c.in_ok-above.above + cost_of c.point-there.result c.point-here.result) c.unwrap-parent.result.1) [
            | inl less ↦ absurd (let yes = c.costs_less_through.ensures.1 less in cc)
            | inr most ↦ most
          ]);
      whole = wholes here;
    }
