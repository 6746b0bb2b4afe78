-- A mark whose node was placed: what its neighbours cost, what may be recorded, and what the whole handling leaves.
use Rattle.plan_work.proofs.Words.{◌≡◌, ◌≢◌, ℕ, zero, suc, ◌+◌, ◌*◌, ◌≤◌, ◌^◌, true, Some, inl, inr, refl, sym, ap, ◌∙◌, subst, arith, All, Contains, IfSome}
use Rattle.plan_work.proofs.Words.{IsTrue, leb-true, All-contains, Clear, space_of, cost_of, squared_distance, lies_in_goals, is_within, point_at}
use Rattle.plan_work.proofs.Words.{point_of, class_of, radius_of_class, Point, Record, cost_of-swap, IsPresent-stands, StandsAt-present, point_of-stands}
use Rattle.plan_work.proofs.Words.{class_of-le, Clear-back, Word, Count, FirstOf, RecordOf, TreeOf, best_word, cost_in, NewNode, SameNode, numbers_of, GoesOn}
use Rattle.plan_work.proofs.Words.{PassState, SharedState, GoesOn-trans, IsOwnNeighbour, MayRecord, is_own_node, own_count, own_first_cost, SeesPoint, sight_in}
use Rattle.plan_work.proofs.Words.{sees, setup_in, tree_seen, has_node-recorded, own_recorded, present_recorded, SweepsWithin, Hand, SharedRun, View}
use Rattle.plan_work.proofs.Words.{SeesPair-later, cost_seen-later, stands_later, HasSpreadFalls-still, HasSpreadFalls, IsLoadedSince, NamesLoweredOrPoint}
use Rattle.plan_work.proofs.Words.{SeesAnew, SeesPair, cost_seen, IsPlacedAt, IsWithinRadius, WasChosen, WasNeighbour, WasRewired, radius_in, HasFilledNear}
use Rattle.plan_work.proofs.Words.{HasRecorded, IsFilledSince, IsTried, KeepsRecords, MayPlace, given_by, hung_by, own_placed, placed_hand, own_unplaced}
use Rattle.plan_work.proofs.Words.{Hanging}
use Rattle.kd_shared.specs.declared.placing.Placing.TheVariants.{Placed, Same}
use Rattle.plan_model.specs.declared.records.Outcome.TheVariants.{Same as SameMark}
use Rattle.plan_work.proofs.FilledNear.{looked_still}
use Rattle.plan_work.proofs.KeptSights.{SweepsWithin-still}
use Rattle.plan_work.proofs.HeldMarks.{if_held, of_held}
use Rattle.plan_work.proofs.RecordedMarks.{IsSteeredTo-still, MaySteer-steered, others_still, own_count-same}
use Rattle.plan_work.proofs.SkippedMarks.{IsUnskipped-kept, held_on, placed_stage-goal}
use Rattle.plan_work.proofs.TriedMarks.{HasFilledNear-still, clear_of-may}

-- The first word of a node stays once it was seen.
first_kept : (before after : View) → GoesOn before after → (n : ℕ) → 2 ^ 63 ≤ sees before (FirstOf n) → sees after (FirstOf n) ≡ sees before (FirstOf n)
first_kept before after goes_on n written =
    elim (goes_on.later.seen (FirstOf n)) [
      | inl none ↦ absurd (omega (arith, none, written))
      | inr same ↦ sym same
    ]

-- what own nodes were placed at is at least what they cost, as it was seen at any time since
cost-first : (before mid after : View) → GoesOn before mid → GoesOn mid after → (entry : Record)
    → ((k : ℕ) → sees after (RecordOf k) ≡ sees before (RecordOf k))
    → (i : ℕ) → IsTrue (is_own_node after entry i) → SeesPair mid i → cost_seen mid i ≤ own_first_cost after i
cost-first before mid after one other entry records zero own pair = omega (arith, ((one.lawful.pairs 0 pair).start refl).1)
cost-first before mid after one other entry records (suc k) own pair = omega (arith, (one.lawful.pairs (suc k) pair).first there, ap cost_in kept)
  where
    was : 2 ^ 63 ≤ sees before (FirstOf (suc k))
    was = one.was_lawful.tree.placed_first k (sym (has_node-recorded before after records (suc k)) ∙ own_recorded after entry (suc k) own)

    there : 2 ^ 63 ≤ sees mid (FirstOf (suc k))
    there = omega (arith, was, first_kept before mid one (suc k) was)

    kept : sees after (FirstOf (suc k)) ≡ sees mid (FirstOf (suc k))
    kept = first_kept mid after other (suc k) there

-- another node stands at the point in hand
pub MayRecord-same :
    (shared : SharedState) (before after : PassState) (k m : ℕ) (p : Point) (hanging : Hanging) (j : ℕ) (may : MayPlace shared before k m p)
    → KeepsRecords shared before after → IsTried before after may.hand (Same j) hanging
    → IfSome after.view.hand (λ hand. MayRecord after.view hand (own_unplaced after.view m (SameMark j)))
MayRecord-same shared before after k m p hanging j may keeps tried =
    if_held after.view (λ hand. MayRecord after.view hand (own_unplaced after.view m (SameMark j))) (hung_by may.hand hanging) tried.came.unchanged
    (MaySteer-steered after.view (hung_by may.hand hanging) k m p (own_unplaced after.view m (SameMark j)) (SameNode j)
    (IsSteeredTo-still before.view after.view k m p keeps.goes_on keeps.records may.steered) may.mark (
      IsUnskipped-kept before.view after.view may.hand (hung_by may.hand hanging) keeps.goes_on.later.run refl refl may.unskipped,
      subst (SeesPoint after.view j) may.pointed.point tried.came.stands,
    ))

-- what a rewiring says of the node in hand, by its point and its cost
pub Rewired-hand :
    (shared : SharedState) (before tried after : PassState) (k m : ℕ) (p : Point) (hanging : Hanging) (may : MayPlace shared before k m p)
    → IsTried before tried may.hand Placed hanging
    → IfSome tried.view.hand (λ hand. (i : ℕ) → Contains (numbers_of before.lists.search.found) i
    → Clear (space_of shared.task.scene) hand.point (point_of (tree_seen tried.view).points i)
    → cost_seen after.view i ≤ hand.cost + cost_of hand.point (point_of (tree_seen tried.view).points i))
    → (i : ℕ) → Contains (numbers_of before.lists.search.found) i → Clear (space_of shared.task.scene) p (point_of (tree_seen tried.view).points i)
    → cost_seen after.view i ≤ hanging.parent.cost + cost_of p (point_of (tree_seen tried.view).points i)
Rewired-hand shared before tried after k m p hanging may is_tried rewired i among clear =
    let points = (tree_seen tried.view).points in
    let all =
    of_held tried.view
    (λ hand. (n : ℕ) → Contains (numbers_of before.lists.search.found) n → Clear (space_of shared.task.scene) hand.point (point_of points n)
    → cost_seen after.view n ≤ hand.cost + cost_of hand.point (point_of points n))
    (placed_hand tried.view (hung_by may.hand hanging)) is_tried.came.counted rewired in
    let most = all i among (subst (λ a. Clear (space_of shared.task.scene) a (point_of points i)) (sym may.pointed.point) clear) in
    omega (arith, most, ap (λ a. cost_of a (point_of points i)) may.pointed.point)

module _
    (shared : SharedState) (first before tried after : PassState) (k m : ℕ) (p : Point) (hanging : Hanging) (may : MayPlace shared before k m p)
    (since : IsFilledSince shared first before p hanging.class) (keeps : KeepsRecords shared before tried)
    (is_tried : IsTried before tried may.hand Placed hanging)
    (seen : SeesAnew NamesLoweredOrPoint tried.view after.view) (pairs : All (SeesPair after.view) (numbers_of before.lists.search.found))
    (rewired : (i : ℕ) → Contains (numbers_of before.lists.search.found) i → Clear (space_of shared.task.scene) p (point_of (tree_seen tried.view).points i)
    → cost_seen after.view i ≤ hanging.parent.cost + cost_of p (point_of (tree_seen tried.view).points i)) where
  abbrev mid : View
  mid = is_tried.mid

  later : GoesOn mid after.view
  later = GoesOn-trans mid tried.view after.view is_tried.ended seen.goes_on

  -- the near nodes were found since the first moment
  begun : GoesOn first.view mid
  begun = GoesOn-trans first.view before.view mid since.keeps.goes_on is_tried.begun

  filled : HasFilledNear first.view mid p hanging.class before.lists.search.found
  filled = HasFilledNear-still first.view before.view mid p hanging.class before.lists.search.found is_tried.begun is_tried.counted since.filled

  whole : GoesOn before.view after.view
  whole = GoesOn-trans before.view mid after.view is_tried.begun later

  records : (j : ℕ) → sees after.view (RecordOf j) ≡ sees before.view (RecordOf j)
  records j = seen.others (RecordOf j) (λ no. no) ∙ keeps.records j

  since_first : GoesOn first.view after.view
  since_first = GoesOn-trans first.view before.view after.view since.keeps.goes_on whole

  first_records : (j : ℕ) → sees after.view (RecordOf j) ≡ sees first.view (RecordOf j)
  first_records j = records j ∙ since.keeps.records j

  abbrev r : ℕ
  r = radius_in mid hanging.class

  -- ---- neighbours

  -- node i was seen at q at the first moment, within the radius, with a clear edge
  record IsCloseBy (i : ℕ) (q : Point) : Type 0 where
    stood : SeesPoint first.view i q
    near : squared_distance q p ≤ r * r
    clear : Clear (space_of shared.task.scene) q p

  module _ (i : ℕ) (q : Point) (close : IsCloseBy i q) where
    among : Contains (numbers_of before.lists.search.found) i
    among = filled.all i q close.stood close.near

    pair_at_mid : SeesPair mid i
    pair_at_mid = All-contains (SeesPair mid) (numbers_of before.lists.search.found) i is_tried.hung.pairs among

    at_mid : point_of (tree_seen mid).points i ≡ q
    at_mid = point_of-stands (tree_seen mid).points i q (stands_later first.view mid begun i q close.stood)

    at_tried : point_of (tree_seen tried.view).points i ≡ q
    at_tried = point_of-stands (tree_seen tried.view).points i q
        (stands_later first.view tried.view (GoesOn-trans first.view before.view tried.view since.keeps.goes_on keeps.goes_on) i q close.stood)

    space_mid : (setup_in mid.run).space ≡ space_of shared.task.scene
    space_mid = ap (λ (run : SharedRun). (setup_in run).space) (is_tried.begun.later.run ∙ may.belongs.run)

    -- It was no cheaper parent,
    chosen_by : hanging.parent.cost ≤ cost_seen mid i + cost_of q p
    chosen_by =
        omega (
          arith,
          is_tried.hung.chosen i among
              (subst (λ s. Clear s (point_of (tree_seen mid).points i) may.hand.point) (sym space_mid)
              (subst (λ a. Clear (space_of shared.task.scene) a may.hand.point) (sym at_mid)
              (subst (λ b. Clear (space_of shared.task.scene) q b) (sym may.pointed.point) close.clear))),
          ap (λ a. cost_of a may.hand.point) at_mid,
          ap (cost_of q) may.pointed.point,
        )

    -- and is seen no dearer than through the new node.
    rewired_by : cost_seen after.view i ≤ hanging.parent.cost + cost_of q p
    rewired_by =
        omega (
          arith,
          rewired i among (subst (Clear (space_of shared.task.scene) p) (sym at_tried) (Clear-back (space_of shared.task.scene) q p close.clear)),
          ap (cost_of p) at_tried,
          cost_of-swap p q,
        )

    pair_after : SeesPair after.view i
    pair_after = All-contains (SeesPair after.view) (numbers_of before.lists.search.found) i pairs among

  -- ---- the record

  abbrev entry : Record
  entry = own_placed after.view m hanging

  abbrev counted_hand : Hand
  counted_hand = placed_hand tried.view (hung_by may.hand hanging)

  held_after : after.view.hand ≡ Some counted_hand
  held_after = held_on tried.view after.view (hung_by may.hand hanging) is_tried.came.counted seen.kept.hand seen.goes_on

  stood_first : (i : ℕ) → IsTrue (is_own_node after.view entry i) → SeesPoint first.view i (point_of (tree_seen first.view).points i)
  stood_first i own =
      StandsAt-present (tree_seen first.view).points i
      (present_recorded first.view since.keeps.goes_on.was_lawful i
      (sym (has_node-recorded first.view after.view first_records i) ∙ own_recorded after.view entry i own))

  close_own : (i : ℕ) → IsOwnNeighbour after.view entry hanging.class may.hand.point i → IsCloseBy i (point_of (tree_seen after.view).points i)
  close_own i h =
      let points = (tree_seen after.view).points in
      let old = (tree_seen first.view).points in
      let q : Point = point_of points i in
      let stands = stood_first i h.own in
      let same : q ≡ point_of old i = point_of-stands points i (point_of old i) (stands_later first.view after.view since_first i (point_of old i) stands) in
      let here : point_at points i ≡ Some q = stands_later first.view after.view since_first i (point_of old i) stands ∙ ap Some (sym same) in
      let run = later.later.run in
      let radius : radius_of_class after.view.run.step after.view.run.gamma hanging.class ≡ r =
      ap (λ (x : SharedRun). radius_of_class x.step x.gamma hanging.class) run in
      record {
        stood = subst (SeesPoint first.view i) (sym same) stands;
        near =
            let within = subst (λ o. is_within may.hand.point (radius_of_class after.view.run.step after.view.run.gamma hanging.class) o ≡ true) here h.near in
            subst (λ at. squared_distance q at ≤ r * r) may.pointed.point
            (subst (λ x. squared_distance q may.hand.point ≤ x * x) radius (leb-true _ _ within));
        clear =
            subst (Clear (space_of shared.task.scene) q) may.pointed.point
            (subst (λ s. Clear s q may.hand.point) (ap (λ (x : SharedRun). (setup_in x).space) (whole.later.run ∙ may.belongs.run)) h.clear);
      }

  own_count-kept : own_count after.view entry ≤ sees mid Count
  own_count-kept = subst (λ n. n ≤ sees mid Count) (sym same) (filled.counted entry)
    where
      same : own_count after.view entry ≡ own_count first.view entry
      same = own_count-same first.view after.view entry since_first first_records

  pub MayRecord-placed : IfSome after.view.hand (λ hand. MayRecord after.view hand entry)
  MayRecord-placed =
      if_held after.view (λ hand. MayRecord after.view hand entry) counted_hand held_after
      (MaySteer-steered after.view counted_hand k m p entry (NewNode (given_by hanging))
      (IsSteeredTo-still before.view after.view k m p whole records may.steered) may.mark
      record {
        nearest_is = sym may.pointed.nearest;
        parent_is = refl;
        cost_is = refl;
        clear =
            subst (λ s. Clear s (point_of (tree_seen after.view).points m) may.hand.point)
            (sym (ap (λ (x : SharedRun). (setup_in x).space) (whole.later.run ∙ may.belongs.run)))
            (subst (λ b. Clear (space_of shared.task.scene) (point_of (tree_seen after.view).points m) b) (sym may.pointed.point)
            (clear_of-may (space_of shared.task.scene) shared before after.view k m p whole may may.clear));
        low = omega (arith, class_of-le (own_count after.view entry) (sees mid Count) own_count-kept, filled.class_is);
        high = omega (arith, filled.class_is, ap class_of is_tried.count, ap class_of (seen.others Count (λ no. no)));
        chosen = λ i h.
            let close = close_own i h in
            let most = cost-first before.view mid after.view is_tried.begun later entry records i h.own (pair_at_mid i _ close) in
            omega (arith, chosen_by i _ close, most, ap (cost_of (point_of (tree_seen after.view).points i)) may.pointed.point);
        rewired = λ i h.
            let close = close_own i h in (
              pair_after i _ close,
              omega (arith, rewired_by i _ close, ap (cost_of (point_of (tree_seen after.view).points i)) may.pointed.point),
            );
        posted = (
          λ goal.
              placed_stage-goal tried.view.run.goals may.hand.point
              (subst (λ (r : SharedRun). lies_in_goals r.goals may.hand.point ≡ true) seen.goes_on.later.run goal),
          (whole.lawful.tree.holds counted_hand held_after).posted,
        );
      })

  -- ---- after the record

  module _ (spread : HasSpreadFalls (space_of shared.task.scene) (Contains (numbers_of before.lists.search.found)) (suc k) tried.view after.view)
      (done : PassState)
      (stored : Record) (recorded : HasRecorded shared after done stored) where
    end : GoesOn first.view done.view
    end = GoesOn-trans first.view after.view done.view since_first recorded.goes_on

    radius_end : radius_in done.view hanging.class ≡ r
    radius_end = ap (λ (x : SharedRun). radius_of_class x.step x.gamma hanging.class) (recorded.goes_on.later.run ∙ later.later.run)

    close_neighbour : (i : ℕ) (was : WasNeighbour first.view done.view hanging.class p i) → IsCloseBy i was.at
    close_neighbour i was = record {
      stood = was.stands;
      near = subst (λ x. squared_distance was.at p ≤ x * x) radius_end was.near;
      clear = subst (λ s. Clear s was.at p)
          (ap (λ (x : SharedRun). (setup_in x).space) (recorded.goes_on.later.run ∙ whole.later.run ∙ may.belongs.run)) was.clear;
    }

    -- every other word is seen as before the record was stored
    kept : (name : Word) → name ≢ RecordOf counted_hand.mark → sees done.view name ≡ sees after.view name
    kept name apart =
        others_still after.view done.view counted_hand stored held_after
        (ap (λ (x : PassState). x.view) (recorded.view counted_hand held_after)) whole.lawful name apart

    from_tried : GoesOn tried.view done.view
    from_tried = GoesOn-trans tried.view after.view done.view seen.goes_on recorded.goes_on

    -- the new node stood there as soon as it was linked
    stood : SeesPoint tried.view (suc k) p
    stood =
        subst (λ j. SeesPoint tried.view (suc j) p) may.mark
        (subst (SeesPoint tried.view (suc may.hand.mark)) may.pointed.point is_tried.came.stands)

    -- each of them is within the radius
    within_radius : (i : ℕ) → Contains (numbers_of before.lists.search.found) i → IsWithinRadius tried.view hanging.class p i
    within_radius i listed =
        (HasFilledNear-still first.view mid tried.view p hanging.class before.lists.search.found is_tried.ended is_tried.count filled).close i listed

    WasChosen-recorded : WasChosen first.view mid done.view (given_by hanging) p
    WasChosen-recorded = record {
      since = begun;
      loaded = λ i was.
          let loaded = All-contains (IsLoadedSince before.view.steps mid) (numbers_of before.lists.search.found) i is_tried.hung.loaded
          (among i was.at (close_neighbour i was)) in
          omega (arith, loaded, since.keeps.goes_on.later.steps);
      least = λ i was. omega (arith, chosen_by i was.at (close_neighbour i was));
    }

    WasRewired-recorded : WasRewired first.view tried.view done.view k (given_by hanging) p
    WasRewired-recorded = record {
      until = from_tried;
      stood = stood;
      written = ap (λ j. sees tried.view (TreeOf (suc j))) (sym may.mark) ∙ is_tried.came.pair;
      posted = λ lies.
          let here = subst (λ (r : SharedRun). lies_in_goals r.goals may.hand.point ≡ true) from_tried.later.run
          (subst (λ q. lies_in_goals done.view.run.goals q ≡ true) (sym may.pointed.point) lies) in
          subst (λ n. tried.view.best ≤ best_word hanging.parent.cost (suc n)) may.mark (is_tried.came.posted here);
      pairs = λ i was. SeesPair-later after.view done.view recorded.goes_on i (pair_after i was.at (close_neighbour i was));
      most = λ i was.
          let close = close_neighbour i was in
          omega (
            arith,
            rewired_by i was.at close,
            cost_seen-later after.view done.view recorded.goes_on i (pair_after i was.at close),
          );
      spread =
          subst (λ s. HasSpreadFalls s (IsWithinRadius tried.view hanging.class p) (suc k) tried.view done.view)
          (sym (ap (λ (x : SharedRun). (setup_in x).space) (recorded.goes_on.later.run ∙ whole.later.run ∙ may.belongs.run)))
          (HasSpreadFalls-still (space_of shared.task.scene) (Contains (numbers_of before.lists.search.found)) (IsWithinRadius tried.view hanging.class p)
          (suc k) tried.view after.view done.view recorded.goes_on (λ n. kept (TreeOf n) (λ e. cc))
          (IsPresent-stands (tree_seen after.view).points (suc k) p (stands_later tried.view after.view seen.goes_on (suc k) p stood)) within_radius
          spread);
    }

    pub IsPlacedAt-recorded : IsPlacedAt first.view done.view k (given_by hanging) p
    IsPlacedAt-recorded = record {
      stands = stands_later tried.view done.view from_tried (suc k) p stood;
      class_is =
          filled.class_is
          ∙ ap class_of (sym (kept Count (λ e. cc) ∙ seen.others Count (λ no. no) ∙ is_tried.count));
      looked = looked_still first.view.steps mid done.view (GoesOn-trans mid after.view done.view later recorded.goes_on) filled.looked;
      swept =
          subst (λ x. SweepsWithin (sight_in first.view) (sight_in done.view) p (x * x)) (sym radius_end)
          (SweepsWithin-still mid done.view (GoesOn-trans mid after.view done.view later recorded.goes_on) first.view p (r * r) filled.swept);
      chosen_at = mid;
      linked_at = tried.view;
      in_turn = is_tried.ended;
      chosen = WasChosen-recorded;
      rewired = WasRewired-recorded;
    }
