-- What may be recorded of a mark that was steered from the nearest node: that another node stands at its point, or, if the radius is 0,
-- that its node was placed below the nearest.
use Rattle.shared_tree_tests.proofs.Words.{◌≡◌, ℕ, zero, suc, refl, ◌+◌, ◌-◌, ◌*◌, ◌<◌, ◌≤◌, ◌^◌, true, Option, [], Some, None, length, inl, inr, sym, ap, ◌∙◌}
use Rattle.shared_tree_tests.proofs.Words.{subst, arith, ◌⊎◌, IfSome, IsTrue, nat_le, filter, range_with_len, mul-pos, cases_lt, le-leb, leb-true, filter_agree}
use Rattle.shared_tree_tests.proofs.Words.{pow_pos, Clear, mark_at, is_goal_point, IsNotAbove, distance_to, is_within, IsPresent, point_at, point_of, class_of}
use Rattle.shared_tree_tests.proofs.Words.{radius_of_class, steered, Point, Outcome, Record, Reached, NewNode, SameNode, ending_as, first_hanging}
use Rattle.shared_tree_tests.proofs.Words.{same-from_distance, point_of-stands, greatest-passes, class_of-le, has_node, Count, RecordOf, GoesOn, if_hand}
use Rattle.shared_tree_tests.proofs.Words.{is_own_node-earlier, own_recorded, IsLawfulView, IsOwnNeighbour, MayBePlaced, MayEnd, MayReach, MayRecord, MaySteer}
use Rattle.shared_tree_tests.proofs.Words.{is_own_node, own_count, has_link, SeesPoint, sees, setup_in, tree_seen, Hand, SharedRun, View, HangsBelowNearest}
use Rattle.shared_tree_tests.proofs.Words.{SeesHandPoint, SteersFrom}
use Rattle.grown_runs.proofs.Common.{Placed, Same}
use Rattle.shared_tree_tests.proofs.SteeredPasses.SteeredMarks.{present_nearest}

-- ---- classes and radii

radius-zero : (step gamma class : ℕ) → gamma ≡ 0 → radius_of_class step gamma class ≡ 0
radius-zero step gamma class none = ap (λ g. radius_of_class step g class) none ∙ by_test (cases_lt 0 (radius_of_class step 0 class))
  where
    m : ℕ
    m = 2 ^ (class - 1)

    r : ℕ
    r = radius_of_class step 0 class

    passes : r * r * m ≤ 0 * 0 * class
    passes =
        leb-true (r * r * m) (0 * 0 * class)
        (greatest-passes (λ n. nat_le (n * n * 2 ^ (class - 1)) (0 * 0 * class)) step (le-leb (0 * 0 * 2 ^ (class - 1)) (0 * 0 * class) (omega arith)))

    by_test : (0 < r) ⊎ (r ≤ 0) → r ≡ 0
    by_test (inl some) =
        absurd (omega (arith, passes, mul-pos (mul-pos some some) (pow_pos (class - 1))))
    by_test (inr low) = omega (arith, low)

-- within radius 0 of p there is p alone
within_zero : (p : Point) (o : Option Point) → is_within p 0 o ≡ true → o ≡ Some p
within_zero p None near = cc
within_zero p (Some q) near = ap Some (same-from_distance q p (omega (arith, leb-true _ _ near)))

-- ---- a worker's own nodes

-- they are as many while no record is seen anew
pub own_count-same :
    (before after : View) (entry : Record) → GoesOn before after → ((k : ℕ) → sees after (RecordOf k) ≡ sees before (RecordOf k))
    → own_count after entry ≡ own_count before entry
own_count-same before after entry goes_on records =
    ap (λ (r : SharedRun). length (filter (is_own_node after entry) (range_with_len 0 (length r.marks + 1)))) goes_on.later.run
    ∙ ap length (filter_agree (is_own_node after entry) (is_own_node before entry) same (range_with_len 0 (length before.run.marks + 1)))
  where
    same : (n : ℕ) → is_own_node after entry n ≡ is_own_node before entry n
    same zero = refl
    same (suc k) = sym (is_own_node-earlier before (sees after) entry goes_on.later.seen (λ j of_worker. sym (records j)) (suc k))

-- ---- records

module _ (view : View) (nearest : ℕ) (entry : Record) (lawful : IsLawfulView view) (steers : SteersFrom nearest view) (is : entry.nearest ≡ nearest)
    (none : view.run.goals ≡ []) where
  -- where the hand was steered from, and where to
  reached : steers.hand.point ≡ steered (point_of (tree_seen view).points entry.nearest) (mark_at view.run.marks steers.hand.mark) view.run.step
  reached =
      let step = (lawful.tree.holds steers.hand steers.held).steered_from steers.written in
      let at = ap (point_of (tree_seen view).points) (is ∙ sym steers.nearest_is)
      ∙ point_of-stands (tree_seen view).points steers.hand.nearest step.from step.seen in
      step.reached ∙ ap (λ p. steered p (mark_at view.run.marks steers.hand.mark) view.run.step) (sym at)

  -- so this may be recorded if it may be reached at that point
  MaySteer-steered :
      (to : Reached) → MayReach view steers.hand entry entry.nearest to steers.hand.point → MaySteer view steers.hand entry entry.nearest to
  MaySteer-steered to ended = record {
    present = subst (IsPresent (tree_seen view).points) (sym is) (present_nearest view nearest lawful steers);
    nearest = λ i own.
        subst (λ m. IsNotAbove (distance_to (mark_at view.run.marks steers.hand.mark) (tree_seen view).points) m i) (sym is)
        (steers.not_above i (own_recorded view entry i own));
    outcome = subst (MayReach view steers.hand entry entry.nearest to) reached ended;
  }

  MayRecord-steered : (outcome : Outcome) → entry.outcome ≡ outcome → MayEnd view steers.hand entry (ending_as entry outcome)
      → IfSome view.hand (λ h. MayRecord view h entry)
  MayRecord-steered outcome e may =
      if_hand (λ h. MayRecord view h entry) view.hand steers.hand steers.held
      (subst (λ o. MayEnd view steers.hand entry (ending_as entry o)) (sym e) may)

pub may_finish-same :
    (view : View) (nearest j : ℕ) (entry : Record) → view.run.goals ≡ [] → IsLawfulView view → SteersFrom nearest view → SeesHandPoint view j
    → entry.nearest ≡ nearest
    → entry.outcome ≡ Same j → IfSome view.hand (λ h. MayRecord view h entry)
may_finish-same view nearest j entry none lawful steers seen is outcome =
    let same : seen.hand ≡ steers.hand = cc (seen.held, steers.held) in
    MayRecord-steered view nearest entry lawful steers is none (Same j) outcome
    (MaySteer-steered view nearest entry lawful steers is none (SameNode j)
    (λ informed. absurd (informed none), subst (λ h. SeesPoint view j h.point) same seen.stands))

module _ (view : View) (nearest cost : ℕ) (entry : Record) (lawful : IsLawfulView view) (hangs : HangsBelowNearest nearest cost view)
    (linked : has_link hangs.steers.hand.stage ≡ true) (gamma : view.run.gamma ≡ 0)
    (none : view.run.goals ≡ []) where
  -- no own node is a neighbour: it would stand at the very point
  no_neighbour : (i : ℕ) → IsOwnNeighbour view entry entry.class hangs.steers.hand.point i → ⊥
  no_neighbour i near =
      let hand : Hand = hangs.steers.hand in
      let within = subst (λ r. is_within hand.point r (point_at (tree_seen view).points i) ≡ true)
      (radius-zero view.run.step view.run.gamma entry.class gamma) near.near in
      let stands = within_zero hand.point (point_at (tree_seen view).points i) within in
      let here = (lawful.tree.holds hand hangs.steers.held).shown linked in
      let same = lawful.distinct i (suc hand.mark) hand.point stands here in
      let recorded = ap (has_node (sees view)) (sym same) ∙ own_recorded view entry i near.own in
      let gone = sym hangs.unrecorded ∙ recorded in
      cc

  pub may_finish-placed :
      entry.nearest ≡ nearest → entry.outcome ≡ Placed → entry.first_parent ≡ nearest → entry.first_cost ≡ cost
      → ((e : Record) → own_count view e ≤ sees view Count) → entry.class ≡ class_of (sees view Count) → IfSome view.hand (λ h. MayRecord view h entry)
  may_finish-placed is outcome parent cost_is counted class =
      let hand : Hand = hangs.steers.hand in
      let few = class_of-le (own_count view entry) (sees view Count) (counted entry) in
      let placed : MayBePlaced view hand entry entry.nearest (first_hanging entry) =
      record {
        nearest_is = is ∙ sym hangs.steers.nearest_is;
        parent_is = parent ∙ sym hangs.parent_is;
        cost_is = cost_is ∙ sym hangs.cost_is;
        clear = subst (λ n. Clear (setup_in view.run).space (point_of (tree_seen view).points n) hand.point) (sym is) hangs.clear;
        low = omega (arith, few, class);
        high = omega (arith, class);
        chosen = λ i near. absurd (no_neighbour i near);
        rewired = λ i near. absurd (no_neighbour i near);
        posted = (
          λ goal. (let gone = subst (λ goals. IsTrue (is_goal_point goals (Some hand.point))) none goal in cc),
          (lawful.tree.holds hand hangs.steers.held).posted,
        );
      } in
      MayRecord-steered view nearest entry lawful hangs.steers is none Placed outcome
      (MaySteer-steered view nearest entry lawful hangs.steers is none (NewNode (first_hanging entry)) placed)
