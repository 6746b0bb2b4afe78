-- What a worker may record in its first turn, when the start alone is its own node: that a node was placed below it.
use Rattle.shared_tree_tests.proofs.Words.{◌≡◌, ◌≢◌, ℕ, zero, suc, ◌+◌, ◌≤◌, ◌^◌, Bool, true, false, [], Option, Some, None, length, inl, inr, refl, sym, ap}
use Rattle.shared_tree_tests.proofs.Words.{◌∙◌, subst, arith, ◌==◌, ◌&&◌, IfErr, IfOk, IfSome, IsTrue, Result, Ok, Err, nat_lt, and_parts, cases_Bool, cases_lt}
use Rattle.shared_tree_tests.proofs.Words.{le-ltb, length-filter, Clear, mark_at, space_of, cost_of, is_goal_point, IsNotAbove, distance_to, is_placed}
use Rattle.shared_tree_tests.proofs.Words.{IsPresent, point_of, class_of, is_earlier_record, Point, Record, ending_as, first_hanging, below_digits}
use Rattle.shared_tree_tests.proofs.Words.{class_from_powers, count-single, IsPresent-stands, point_of-stands, record_at, ChildOf, Count, TreeOf, cost_in}
use Rattle.shared_tree_tests.proofs.Words.{HasLinked, PassState, SharedState, run_in, with_view, at_hand, if_hand, no_goals, IsLater, IsLawfulView, IsUnskipped}
use Rattle.shared_tree_tests.proofs.Words.{MayBePlaced, MayEnd, MayRecord, is_own_node, own_count, own_first_cost, loaded, SeesPoint, sees, setup_in, tree_seen}
use Rattle.shared_tree_tests.proofs.Words.{SeesPoint-later, Hand, Stage, Counted, Posted, Treed, View, HangsFromStart}
use Rattle.grown_runs.proofs.Common.{Placed}

-- ---- marks that are not skipped

-- in a scene that is not informed none is
pub unskipped_plain : (shared : SharedState) (view : View) (hand : Hand) → view.hand ≡ Some hand → view.run ≡ run_in shared
    → shared.task.scene.informed ≡ false → IfSome view.hand (IsUnskipped view)
unskipped_plain shared view hand held run plain =
    if_hand (IsUnskipped view) view.hand hand held (λ informed. absurd (informed (no_goals shared view run plain)))

-- no point lies in none of the goals
pub posted_plain :
    (view : View) (hand : Hand) (stage : Stage) → view.run.goals ≡ [] → IsTrue (is_goal_point view.run.goals (Some hand.point)) → hand.stage ≡ stage
posted_plain view hand stage none goal = let gone = subst (λ goals. IsTrue (is_goal_point goals (Some hand.point))) none goal in cc

-- ---- a node below the start

module _ (before after : View) (later : IsLater before after) where
  written_later : 2 ^ 63 ≤ sees before (TreeOf 0) → 2 ^ 63 ≤ sees after (TreeOf 0)
  written_later written =
      elim (later.seen (TreeOf 0)) [
        | inl none ↦ absurd (omega (arith, written, none))
        | inr (inl same) ↦ omega (arith, written, same)
        | inr (inr fell) ↦ fell.0
      ]

  -- a mark that is not skipped stays so
  pub unskipped_later : (hand : Hand) → IsUnskipped before hand → IsUnskipped after hand
  unskipped_later hand unskipped = subst (λ run. IsUnskipped (record before { run = run }) hand) (sym later.run) unskipped

  -- it hangs there from now on,
  pub HangsFromStart-hung :
      (shared : SharedState) (hand : Hand) (start p : Point) (cost : ℕ) → before.run ≡ run_in shared → p ≡ hand.point → SeesPoint before 0 start
      → 2 ^ 63 ≤ sees before (TreeOf 0) → Clear (space_of shared.task.scene) start p → cost ≡ cost_of start p
      → after.hand ≡ Some (record hand { stage = Treed; parent = 0; cost = cost }) → IsUnskipped before hand → HangsFromStart cost after
  HangsFromStart-hung shared hand start p cost own is seen written clear edge held unskipped = record {
    hand = record hand { stage = Treed; parent = 0; cost = cost };
    held = held;
    parent_is = refl;
    cost_is = refl;
    start = start;
    seen = SeesPoint-later before after later.run later.seen 0 start seen;
    edge = edge ∙ ap (cost_of start) is;
    clear =
        subst (λ q. Clear (setup_in after.run).space start q) is (subst (λ run. Clear (setup_in run).space start p) (sym (later.run ∙ own)) clear);
    written = written_later written;
    unskipped = unskipped_later hand unskipped;
  }

  -- whatever its stage
  pub HangsFromStart-later :
      (cost : ℕ) (hung : HangsFromStart cost before) (stage : Stage) → after.hand ≡ Some (record hung.hand { stage = stage }) → HangsFromStart cost after
  HangsFromStart-later cost hung stage held = record {
    hand = record hung.hand { stage = stage };
    held = held;
    parent_is = hung.parent_is;
    cost_is = hung.cost_is;
    start = hung.start;
    seen = SeesPoint-later before after later.run later.seen 0 hung.start hung.seen;
    edge = hung.edge;
    clear = subst (λ run. Clear (setup_in run).space hung.start hung.hand.point) (sym later.run) hung.clear;
    written = written_later hung.written;
    unskipped = unskipped_later hung.hand hung.unskipped;
  }

  pub HangsFromStart-kept : (cost : ℕ) → HangsFromStart cost before → after.hand ≡ before.hand → HangsFromStart cost after
  HangsFromStart-kept cost hung same = HangsFromStart-later cost hung hung.hand.stage (same ∙ hung.held)

-- and so after a link that was tried
pub HangsFromStart-linked :
    {A : Type 0} (old new : PassState) (cost n : ℕ) (side : Bool) (result : Result A ℕ) → IsLater old.view new.view → HangsFromStart cost old.view
    → IfOk result (λ _. IfSome old.view.hand (HasLinked old new n side))
    → IfErr result (λ c. new ≡ with_view old (loaded old.view (ChildOf n side) c)) → HangsFromStart cost new.view
HangsFromStart-linked old new cost n side (Ok u) later hung is other =
    HangsFromStart-later old.view new.view later cost hung Counted
    (ap (λ p. p.view.hand) (at_hand (HasLinked old new n side) old.view.hand hung.hand hung.held is))
HangsFromStart-linked old new cost n side (Err c) later hung is other =
    HangsFromStart-kept old.view new.view later cost hung (ap (λ p. p.view.hand) other)

-- ---- the first turn

module _ (view : View) (entry : Record) (first : entry.turn ≡ 0) where
  -- the start alone is an own node
  own_start : (i : ℕ) → IsTrue (is_own_node view entry i) → i ≡ 0
  own_start zero own = refl
  own_start (suc k) own = by_record (record_at (sees view) k) own
    where
      by_record : (o : Option Record) → is_earlier_record entry o ≡ true → suc k ≡ 0
      by_record None h = cc
      by_record (Some other) h =
          let parts = and_parts (is_placed other.outcome) (other.worker == entry.worker && nat_lt other.turn entry.turn) h in
          let before = (and_parts (other.worker == entry.worker) (nat_lt other.turn entry.turn) parts.1).1 in
          let none = sym (le-ltb other.turn entry.turn (omega (arith, first))) ∙ before in
          cc

  own_alone : (i : ℕ) → i ≢ 0 → is_own_node view entry i ≡ false
  own_alone i other =
      elim (cases_Bool (is_own_node view entry i)) [
        | inl own ↦ absurd (other (own_start i own))
        | inr none ↦ none
      ]

  own_count-one : own_count view entry ≡ 1
  own_count-one =
      length-filter (is_own_node view entry) _ ∙ count-single (is_own_node view entry) (length view.run.marks + 1) 0 (omega arith) refl own_alone

class_of-some : (n : ℕ) → 1 ≤ n → 1 ≤ class_of n
class_of-some n some =
    elim (cases_lt 0 (class_of n)) [
      | inl h ↦ omega (arith, h)
      | inr h ↦ (let none : class_of n ≡ 0 = omega (arith, h) in absurd (omega (arith, some, below_digits n, ap (λ k. 2 ^ k) none)))
    ]

-- The node in hand may be recorded as placed below the start.
module _ (view : View) (hand : Hand) (entry : Record) (cost : ℕ) (lawful : IsLawfulView view) (hung : HangsFromStart cost view)
    (held : view.hand ≡ Some hand) (first : entry.turn ≡ 0) (nearest : entry.nearest ≡ 0) (from_start : hand.nearest ≡ 0)
    (posted : IsTrue (is_goal_point view.run.goals (Some hand.point)) → hand.stage ≡ Posted) where
  same_hand : hung.hand ≡ hand
  same_hand = cc (hung.held, held)

  at_start : point_of (tree_seen view).points 0 ≡ hung.start
  at_start = point_of-stands (tree_seen view).points 0 hung.start hung.seen

  edge : hand.cost ≡ cost_of (point_of (tree_seen view).points 0) hand.point
  edge = ap (λ h. h.cost) (sym same_hand) ∙ hung.cost_is ∙ hung.edge ∙ ap (cost_of hung.start) (ap (λ h. h.point) same_hand)
      ∙ ap (λ p. cost_of p hand.point) (sym at_start)

  pub MayRecord-first :
      entry.outcome ≡ Placed → entry.first_parent ≡ 0 → entry.first_cost ≡ cost → entry.class ≡ 1 → 1 ≤ sees view Count → MayRecord view hand entry
  MayRecord-first outcome parent cost_is class some =
      subst (λ o. MayEnd view hand entry (ending_as entry o)) (sym outcome) record {
        present = subst (IsPresent (tree_seen view).points) (sym nearest) (IsPresent-stands (tree_seen view).points 0 hung.start hung.seen);
        nearest = λ i own. (
            let alone = own_start view entry first i own in
            subst (λ n. IsNotAbove (distance_to (mark_at view.run.marks hand.mark) (tree_seen view).points) n i) (sym nearest)
            (subst (IsNotAbove (distance_to (mark_at view.run.marks hand.mark) (tree_seen view).points) 0) (sym alone)
            (record { least = omega arith; first = λ e. omega arith })));
        outcome = placed;
      }
    where
      placed : MayBePlaced view hand entry entry.nearest (first_hanging entry)
      placed = record {
        nearest_is = nearest ∙ sym from_start;
        parent_is = parent ∙ sym hung.parent_is ∙ ap (λ h. h.parent) same_hand;
        cost_is = cost_is ∙ sym hung.cost_is ∙ ap (λ h. h.cost) same_hand;
        clear =
            subst (λ n. Clear (setup_in view.run).space (point_of (tree_seen view).points n) hand.point) (sym nearest)
            (subst (λ p. Clear (setup_in view.run).space p hand.point) (sym at_start)
            (subst (λ h. Clear (setup_in view.run).space hung.start h.point) same_hand hung.clear));
        low = omega (arith, class, ap class_of (own_count-one view entry first), class_from_powers 1 0 (omega arith) (omega arith));
        high = omega (arith, class, class_of-some (sees view Count) some);
        chosen = λ i near. (
            let alone = own_start view entry first i near.own in
            subst (λ n. hand.cost ≤ own_first_cost view n + cost_of (point_of (tree_seen view).points n) hand.point) (sym alone) (omega (arith, edge)));
        rewired = λ i near. (
            let alone = own_start view entry first i near.own in
            subst
            (λ n. (2 ^ 63 ≤ sees view (TreeOf n)) × (cost_in (sees view (TreeOf n)) ≤ hand.cost + cost_of (point_of (tree_seen view).points n) hand.point))
            (sym alone) (hung.written, omega (arith, ((lawful.pairs 0 hung.written).start refl).1)));
        posted = (posted, (lawful.tree.holds hand held).posted);
      }

pub may_finish :
    (view : View) (hand : Hand) (entry : Record) (cost : ℕ) → IsLawfulView view → HangsFromStart cost view → view.hand ≡ Some hand → entry.turn ≡ 0
    → entry.nearest ≡ 0 → hand.nearest ≡ 0 → (IsTrue (is_goal_point view.run.goals (Some hand.point)) → hand.stage ≡ Posted)
    → entry.outcome ≡ Placed → entry.first_parent ≡ 0 → entry.first_cost ≡ cost → entry.class ≡ 1
    → 1 ≤ sees view Count → IfSome view.hand (λ h. MayRecord view h entry)
may_finish view hand entry cost lawful hung held first nearest from_start posted outcome parent cost_is class some =
    if_hand (λ h. MayRecord view h entry) view.hand hand held
    (MayRecord-first view hand entry cost lawful hung held first nearest from_start posted outcome parent cost_is class some)
