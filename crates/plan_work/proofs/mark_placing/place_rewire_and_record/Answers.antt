use Rattle.plan_work.proofs.Words.{◌≡◌, suc, true, refl, sym, ap, ◌∙◌, subst, All, Contains, IsSome, NewNode, SameNode, ending_of, space_of, FirstOf, near_new}
use Rattle.plan_work.proofs.Words.{IsFilledWhole, IsTriedWhole, IsFilledSince, IsTried, given_by, hung_by, placed_hand, has_count, pair_in_hand, SeesPoint}
use Rattle.plan_work.proofs.Words.{sees, setup_in, tree_seen, IsInReach-later, stands_later, near-increases, numbers_of, AreOf, IsWeighed, HasSpreadFalls}
use Rattle.plan_work.proofs.Words.{AreOf-weighed, IsInReach, NamesLoweredOrPoint, SeesPair, IsMeasured}
use Rattle.plan_work.proofs.HeldMarks.{if_held, of_held}
use Rattle.plan_work.proofs.KeptRecords.{KeepsRecords-anew, KeepsRecords-trans}
use Rattle.plan_work.proofs.PlacedMarks.{IsPlacedAt-recorded, MayRecord-placed, MayRecord-same, Rewired-hand}
use Rattle.plan_work.proofs.RecordedMarks.{HandlesMark-recorded}
use Rattle.plan_work.proofs.PlacedAlone.{HasPostedGoals-tried, AloneNext-placed, AloneNext-same, Mirrors-tried}
use Rattle.plan_work.proofs.WholeLists.{HasWholeShare-kept}
use Rattle.plan_work.proofs.mark_placing.place_rewire_and_record.Goals as goal
use Rattle.plan_work.proofs.PlacedHands.{HasPlaced-come}
use Rattle.plan_work.proofs.SkippedMarks.{has_count-placed, held_on}
use Rattle.kd_shared.specs.declared.placing.Placing.TheVariants.{Placed}
use Rattle.plan_work.proofs.TriedMarks.{AllWeighed-tried, IsRewiredBy, numbers-tried}

pub rewire_found-requires-clause-placed : goal.rewire_found-requires-clause-placed
rewire_found-requires-clause-placed g c κs within =
    let before = c.args.pass.now in
    let after = c.choose_and_place-tried.new.pass in
    let may = c.requires.may in
    let tried = of_held before.view (λ hand. IsTried before after hand c.choose_and_place-tried.result.placing c.choose_and_place-tried.result.hanging) may.hand
    may.held c.choose_and_place-tried.ensures.tried in
    let placed = subst (λ placing. IsTried before after may.hand placing c.choose_and_place-tried.result.hanging) c.in-Placed.is tried in
    HasPlaced-come after.view c.args.k _ placed.came may.mark

pub record_placed-requires-clause-hand : goal.record_placed-requires-clause-hand
record_placed-requires-clause-hand g c =
    let before = c.args.pass.now in
    let after = c.choose_and_place-tried.new.pass in
    let may = c.requires.may in
    let tried = of_held before.view (λ hand. IsTried before after hand c.choose_and_place-tried.result.placing c.choose_and_place-tried.result.hanging) may.hand
    may.held c.choose_and_place-tried.ensures.tried in
    let placed = subst (λ placing. IsTried before after may.hand placing c.choose_and_place-tried.result.hanging) c.in-Placed.is tried in
    subst IsSome
    (sym (held_on after.view c.rewire_found.new.pass.view (hung_by may.hand c.choose_and_place-tried.result.hanging) placed.came.counted
    c.rewire_found.ensures.seen.kept.hand c.rewire_found.ensures.seen.goes_on)) refl

pub record_placed-requires-clause-counted : goal.record_placed-requires-clause-counted
record_placed-requires-clause-counted g c =
    let before = c.args.pass.now in
    let after = c.choose_and_place-tried.new.pass in
    let may = c.requires.may in
    let tried = of_held before.view (λ hand. IsTried before after hand c.choose_and_place-tried.result.placing c.choose_and_place-tried.result.hanging) may.hand
    may.held c.choose_and_place-tried.ensures.tried in
    let placed = subst (λ placing. IsTried before after may.hand placing c.choose_and_place-tried.result.hanging) c.in-Placed.is tried in
    if_held c.rewire_found.new.pass.view (λ hand. has_count hand.stage ≡ true) _
    (held_on after.view c.rewire_found.new.pass.view (hung_by may.hand c.choose_and_place-tried.result.hanging) placed.came.counted
    c.rewire_found.ensures.seen.kept.hand c.rewire_found.ensures.seen.goes_on)
    (has_count-placed after.view.run.goals may.hand.point)

pub rewire_found-requires-clause-near : goal.rewire_found-requires-clause-near
rewire_found-requires-clause-near g c κs within =
    let before = c.args.pass.now in
    let after = c.choose_and_place-tried.new.pass in
    let may = c.requires.may in
    let tried = of_held before.view (λ hand. IsTried before after hand c.choose_and_place-tried.result.placing c.choose_and_place-tried.result.hanging) may.hand
    may.held c.choose_and_place-tried.ensures.tried in
    let placed = subst (λ placing. IsTried before after may.hand placing c.choose_and_place-tried.result.hanging) c.in-Placed.is tried in
    let filled = c.requires.filled.1.filled in
    if_held after.view (λ hand. All (IsInReach after.view hand.point) (numbers_of after.lists.search.found)) _ placed.came.counted
    (subst (λ q. All (IsInReach after.view q) (numbers_of after.lists.search.found)) (sym may.pointed.point)
    (subst (All (IsInReach after.view c.args.steering.point)) (sym (numbers-tried before after may.hand Placed c.choose_and_place-tried.result.hanging placed))
    (λ k d below.
    IsInReach-later before.view after.view c.args.steering.point _ c.choose_and_place-tried.ensures.keeps.goes_on (filled.in_reach k d below))))

pub rewire_found-requires-clause-weighed : goal.rewire_found-requires-clause-weighed
rewire_found-requires-clause-weighed g c κs within =
    let before = c.args.pass.now in
    let after = c.choose_and_place-tried.new.pass in
    let may = c.requires.may in
    let tried = of_held before.view (λ hand. IsTried before after hand c.choose_and_place-tried.result.placing c.choose_and_place-tried.result.hanging) may.hand
    may.held c.choose_and_place-tried.ensures.tried in
    let placed = subst (λ placing. IsTried before after may.hand placing c.choose_and_place-tried.result.hanging) c.in-Placed.is tried in
    if_held after.view (λ hand. All (IsWeighed after.view hand.point) after.lists.search.found) _ placed.came.counted
    (AllWeighed-tried before after may.hand Placed c.choose_and_place-tried.result.hanging placed c.choose_and_place-tried.ensures.keeps.goes_on
    (subst (λ q. All (IsMeasured before.view q) before.lists.search.found) (sym may.pointed.point) c.requires.filled.1.filled.measured))

pub record_placed-requires-clause-may : goal.record_placed-requires-clause-may
record_placed-requires-clause-may g c =
    let before = c.args.pass.now in
    let after = c.choose_and_place-tried.new.pass in
    let may = c.requires.may in
    let tried = of_held before.view (λ hand. IsTried before after hand c.choose_and_place-tried.result.placing c.choose_and_place-tried.result.hanging) may.hand
    may.held c.choose_and_place-tried.ensures.tried in
    let placed = subst (λ placing. IsTried before after may.hand placing c.choose_and_place-tried.result.hanging) c.in-Placed.is tried in
    let since = subst (IsFilledSince c.args.shared.now c.requires.filled.0 before c.args.steering.point) (sym c.choose_and_place-tried.ensures.class)
    c.requires.filled.1 in
    let same = numbers-tried before after may.hand Placed c.choose_and_place-tried.result.hanging placed in
    MayRecord-placed c.args.shared.now c.requires.filled.0 before after c.rewire_found.new.pass c.args.k c.args.steering.nearest c.args.steering.point
    c.choose_and_place-tried.result.hanging may since c.choose_and_place-tried.ensures.keeps placed c.rewire_found.ensures.seen
    (subst (All (SeesPair c.rewire_found.new.pass.view)) same c.rewire_found.ensures.pairs)
    (Rewired-hand c.args.shared.now before after c.rewire_found.new.pass c.args.k c.args.steering.nearest c.args.steering.point
    c.choose_and_place-tried.result.hanging may placed
    (subst (IsRewiredBy c.args.shared.now after.view c.rewire_found.new.pass.view) same c.rewire_found.ensures.rewired))

pub record_placed-requires-clause-first : goal.record_placed-requires-clause-first
record_placed-requires-clause-first g c =
    let before = c.args.pass.now in
    let after = c.choose_and_place-tried.new.pass in
    let may = c.requires.may in
    let tried = of_held before.view (λ hand. IsTried before after hand c.choose_and_place-tried.result.placing c.choose_and_place-tried.result.hanging) may.hand
    may.held c.choose_and_place-tried.ensures.tried in
    let placed = subst (λ placing. IsTried before after may.hand placing c.choose_and_place-tried.result.hanging) c.in-Placed.is tried in
    if_held c.rewire_found.new.pass.view (λ hand. sees c.rewire_found.new.pass.view (FirstOf (suc hand.mark)) ≡ pair_in_hand hand) _
    (held_on after.view c.rewire_found.new.pass.view (hung_by may.hand c.choose_and_place-tried.result.hanging) placed.came.counted
    c.rewire_found.ensures.seen.kept.hand c.rewire_found.ensures.seen.goes_on)
    (c.rewire_found.ensures.seen.others (FirstOf (suc may.hand.mark)) (λ no. no) ∙ placed.came.first)

pub record_unplaced-requires-clause-may : goal.record_unplaced-requires-clause-may
record_unplaced-requires-clause-may g c =
    let before = c.args.pass.now in
    let after = c.choose_and_place-tried.new.pass in
    let may = c.requires.may in
    let tried = of_held before.view (λ hand. IsTried before after hand c.choose_and_place-tried.result.placing c.choose_and_place-tried.result.hanging) may.hand
    may.held c.choose_and_place-tried.ensures.tried in
    MayRecord-same c.args.shared.now before after c.args.k c.args.steering.nearest c.args.steering.point c.choose_and_place-tried.result.hanging
    c.in-Same.node may c.choose_and_place-tried.ensures.keeps
    (subst (λ placing. IsTried before after may.hand placing c.choose_and_place-tried.result.hanging) c.in-Same.is tried)

pub returns-in-Placed-clause-handled : goal.returns-in-Placed-clause-handled
returns-in-Placed-clause-handled g c =
    let before = c.args.pass.now in
    let after = c.choose_and_place-tried.new.pass in
    let may = c.requires.may in
    let tried = of_held before.view (λ hand. IsTried before after hand c.choose_and_place-tried.result.placing c.choose_and_place-tried.result.hanging) may.hand
    may.held c.choose_and_place-tried.ensures.tried in
    let placed = subst (λ placing. IsTried before after may.hand placing c.choose_and_place-tried.result.hanging) c.in-Placed.is tried in
    HandlesMark-recorded c.args.shared.now before c.rewire_found.new.pass c.record_placed.new.pass
    (placed_hand after.view (hung_by may.hand c.choose_and_place-tried.result.hanging)) c.args.k c.record_placed.result
    (KeepsRecords-trans c.args.shared.now before after c.rewire_found.new.pass c.choose_and_place-tried.ensures.keeps
    (KeepsRecords-anew NamesLoweredOrPoint c.args.shared.now after c.rewire_found.new.pass (λ j no. no) (λ g no. no) c.rewire_found.ensures.belongs
    c.rewire_found.ensures.seen))
    c.record_placed.ensures.recorded
    (held_on after.view c.rewire_found.new.pass.view (hung_by may.hand c.choose_and_place-tried.result.hanging) placed.came.counted
    c.rewire_found.ensures.seen.kept.hand c.rewire_found.ensures.seen.goes_on) may.mark

pub returns-in-Placed-clause-ended : goal.returns-in-Placed-clause-ended
returns-in-Placed-clause-ended g c = λ first filled.
    let before = c.args.pass.now in
    let after = c.choose_and_place-tried.new.pass in
    let may = c.requires.may in
    let tried = of_held before.view (λ hand. IsTried before after hand c.choose_and_place-tried.result.placing c.choose_and_place-tried.result.hanging) may.hand
    may.held c.choose_and_place-tried.ensures.tried in
    let placed = subst (λ placing. IsTried before after may.hand placing c.choose_and_place-tried.result.hanging) c.in-Placed.is tried in
    let since = subst (IsFilledSince c.args.shared.now first before c.args.steering.point) (sym c.choose_and_place-tried.ensures.class) filled in
    let same = numbers-tried before after may.hand Placed c.choose_and_place-tried.result.hanging placed in
    let at = IsPlacedAt-recorded c.args.shared.now first before after c.rewire_found.new.pass c.args.k c.args.steering.nearest c.args.steering.point
    c.choose_and_place-tried.result.hanging may since c.choose_and_place-tried.ensures.keeps placed c.rewire_found.ensures.seen
    (subst (All (SeesPair c.rewire_found.new.pass.view)) same c.rewire_found.ensures.pairs)
    (Rewired-hand c.args.shared.now before after c.rewire_found.new.pass c.args.k c.args.steering.nearest c.args.steering.point
    c.choose_and_place-tried.result.hanging may placed
    (subst (IsRewiredBy c.args.shared.now after.view c.rewire_found.new.pass.view) same c.rewire_found.ensures.rewired))
    (subst (λ ns. HasSpreadFalls (space_of c.args.shared.now.task.scene) (Contains ns) (suc c.args.k) after.view c.rewire_found.new.pass.view) same
    c.rewire_found.ensures.spread) c.record_placed.new.pass c.record_placed.result c.record_placed.ensures.recorded in
    record { reached = NewNode (given_by c.choose_and_place-tried.result.hanging); ending = ap ending_of c.record_placed.ensures.entry; as_seen = at }

pub returns-in-Same-clause-handled : goal.returns-in-Same-clause-handled
returns-in-Same-clause-handled g c =
    let before = c.args.pass.now in
    let after = c.choose_and_place-tried.new.pass in
    let may = c.requires.may in
    let tried = of_held before.view (λ hand. IsTried before after hand c.choose_and_place-tried.result.placing c.choose_and_place-tried.result.hanging) may.hand
    may.held c.choose_and_place-tried.ensures.tried in
    let same = subst (λ placing. IsTried before after may.hand placing c.choose_and_place-tried.result.hanging) c.in-Same.is tried in
    HandlesMark-recorded c.args.shared.now before after c.record_unplaced.new.pass (hung_by may.hand c.choose_and_place-tried.result.hanging) c.args.k
    c.record_unplaced.result c.choose_and_place-tried.ensures.keeps c.record_unplaced.ensures.recorded same.came.unchanged may.mark

pub returns-in-Same-clause-ended : goal.returns-in-Same-clause-ended
returns-in-Same-clause-ended g c = λ first filled.
    let before = c.args.pass.now in
    let after = c.choose_and_place-tried.new.pass in
    let may = c.requires.may in
    let tried = of_held before.view (λ hand. IsTried before after hand c.choose_and_place-tried.result.placing c.choose_and_place-tried.result.hanging) may.hand
    may.held c.choose_and_place-tried.ensures.tried in
    let same = subst (λ placing. IsTried before after may.hand placing c.choose_and_place-tried.result.hanging) c.in-Same.is tried in
    record {
      reached = SameNode c.in-Same.node;
      ending = ap ending_of c.record_unplaced.ensures.entry;
      as_seen =
          subst (SeesPoint c.record_unplaced.new.pass.view c.in-Same.node) may.pointed.point
          (stands_later after.view c.record_unplaced.new.pass.view c.record_unplaced.ensures.recorded.goes_on c.in-Same.node may.hand.point
          same.came.stands);
    }

-- ---- of a pass that works alone

pub returns-in-Placed-clause-textbook : goal.returns-in-Placed-clause-textbook
returns-in-Placed-clause-textbook g c = λ steers filled alone book cheaper.
    let shared = c.args.shared.now in
    let before = c.args.pass.now in
    let after = c.choose_and_place-tried.new.pass in
    let hanging = c.choose_and_place-tried.result.hanging in
    let p = c.args.steering.point in
    let m = c.args.steering.nearest in
    let may = c.requires.may in
    let keeps = c.choose_and_place-tried.ensures.keeps in
    let tried = of_held before.view (λ hand. IsTried before after hand c.choose_and_place-tried.result.placing hanging) may.hand may.held
    c.choose_and_place-tried.ensures.tried in
    let placed = subst (λ placing. IsTried before after may.hand placing hanging) c.in-Placed.is tried in
    let whole = subst (λ placing. IsTriedWhole (space_of shared.task.scene) before.view after.view c.args.k p m (numbers_of before.lists.search.found)
    placing hanging)
    c.in-Placed.is
    (c.choose_and_place-tried.ensures.whole alone.whole) in
    let reach = c.requires.filled.1.filled.in_reach in
    let filled_class = subst (λ n. IsFilledWhole before.view p n before.lists.search.found) (sym c.choose_and_place-tried.ensures.class) filled in
    let start_clear = (keeps.goes_on.was_lawful.order alone.whole).start_clear in
    let mirrors = Mirrors-tried shared before after c.args.k m p hanging may keeps placed whole reach steers filled_class book start_clear in
    let near = near_new (setup_in before.view.run) (tree_seen before.view).points p in
    let rises = near-increases (tree_seen before.view).points p _ in
    let of = subst (λ fs. AreOf fs near) (sym placed.found) (AreOf-weighed before.lists.search.found near filled.found_is) in
    let rewired = c.rewire_found.ensures.whole (HasWholeShare-kept shared before after keeps alone.whole) _ mirrors near rises of in
    AloneNext-placed shared before after c.args.k m p hanging may keeps placed whole reach steers filled_class book start_clear c.rewire_found.new.pass
    c.record_placed.new.pass c.record_placed.result c.rewire_found.ensures.seen rewired.0 rewired.1 rewired.2 c.record_placed.ensures.recorded
    c.record_placed.ensures.entry alone cheaper
    (c.rewire_found.ensures.goals (HasWholeShare-kept shared before after keeps alone.whole)
    (HasPostedGoals-tried shared before after c.args.k m p hanging may keeps placed whole reach steers filled_class book start_clear))

pub returns-in-Same-clause-textbook : goal.returns-in-Same-clause-textbook
returns-in-Same-clause-textbook g c = λ steers filled alone book cheaper.
    let shared = c.args.shared.now in
    let before = c.args.pass.now in
    let after = c.choose_and_place-tried.new.pass in
    let hanging = c.choose_and_place-tried.result.hanging in
    let may = c.requires.may in
    let tried = of_held before.view (λ hand. IsTried before after hand c.choose_and_place-tried.result.placing hanging) may.hand may.held
    c.choose_and_place-tried.ensures.tried in
    let same = subst (λ placing. IsTried before after may.hand placing hanging) c.in-Same.is tried in
    let whole = subst (λ placing. IsTriedWhole
    (space_of shared.task.scene) before.view after.view c.args.k c.args.steering.point c.args.steering.nearest (numbers_of before.lists.search.found)
    placing hanging)
    c.in-Same.is (c.choose_and_place-tried.ensures.whole alone.whole) in
    AloneNext-same shared before after c.record_unplaced.new.pass c.args.k c.args.steering.nearest c.in-Same.node c.args.steering.point hanging
    c.record_unplaced.result may c.choose_and_place-tried.ensures.keeps same whole c.record_unplaced.ensures.recorded c.record_unplaced.ensures.entry steers
    alone book cheaper
