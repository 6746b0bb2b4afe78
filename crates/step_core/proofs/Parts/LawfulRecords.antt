-- From what a pass has seen to the record law: a record that the view allows is lawful in the tree now.
use Rattle.step_core.proofs.Words.{◌≡◌, ◌≢◌, ◌+◌, ◌/◌, ◌<◌, ◌≤◌, ◌^◌, ◌∙◌, ◌==◌, ◌&&◌, ℕ, zero, suc, Bool, true, false, Option, Some, None, List, length, refl}
use Rattle.step_core.proofs.Words.{sym, ap, subst, inl, inr, arith, IsTrue, is_some, nat_lt, unwrap_or, count_by, range_with_len, sum_by, some, get_elem?}
use Rattle.step_core.proofs.Words.{div-add-mod', mod_below, length-map-range_with_len, length-filter, Clear, mark_at, cost_of, squared_distance, IsGoalNode}
use Rattle.step_core.proofs.Words.{is_goal_point, is_within, Hangs, is_placed, IsPresent, StandsAt, node_count, point_at, point_of, class_of, radius_of_class}
use Rattle.step_core.proofs.Words.{HangsLawfully, HasLawfulEnding, ReachesLawfully, IsBlockedLawfully, IsChosenLawfully, IsEarlier, IsLawfulRecord, IsNeighbour}
use Rattle.step_core.proofs.Words.{IsPlacedLawfully, IsSkippedLawfully, IsSteeredLawfully, earlier_count, first_cost_through, is_earlier, is_earlier_record}
use Rattle.step_core.proofs.Words.{NewNode, NoWay, Reached, SameNode, ending_as, first_hanging, steered, Setup, mark_bound, TreeState, first_cost_of}
use Rattle.step_core.proofs.Words.{is_of_worker, once_if, Point, Outcome, Blocked, Placed, Same, Skipped, Record, count-first, count-same, sum-le, no_goal_node}
use Rattle.step_core.proofs.Words.{IsPresent-stands, StandsAt-present, class_of-le, has_node, record_at, AreBehind, Words, Count, FirstOf, RecordOf, TreeOf}
use Rattle.step_core.proofs.Words.{IsFirstWord, best_cost_in, cost_in, no_best, record_of_word, tree_word, unplaced_at, zeros, cost_in-tree_word, IsInformed}
use Rattle.step_core.proofs.Words.{IsUnskipped, MayBeSkipped, IsOwnNeighbour, MayBeBlocked, MayBePlaced, MayEnd, MayReach, MaySteer, is_own_node, own_count}
use Rattle.step_core.proofs.Words.{own_first_cost, linked_point, IsMoment, MayFinish, Moment, has_count, has_first, has_link, has_point, SeesHand, SeesPoint}
use Rattle.step_core.proofs.Words.{SeesTree, run_sizes, sees, setup_in, tree_seen, IsFirstOf, IsWorld, counted_once, state_in, Hand, SharedRun, Stage, Counted}
use Rattle.step_core.proofs.Words.{Posted, View}
use Rattle.step_core.proofs.OneView.LawfulSights.{IsTrueOf-seen, first-now, node-now}
use Rattle.step_core.proofs.Parts.LinkedStates.{count-most, first_cost-linked, linked-present}
use Rattle.step_core.proofs.Seen.SeenWords.{told-own, seen-within}
use Rattle.step_core.proofs.Seen.Looks.{cost_in-falls}
use Rattle.step_core.proofs.OneView.SeenViews.{earlier-placed, own_recorded}
use Rattle.step_core.proofs.Parts.WorldBests.{node-linked}

-- ---- records

-- an earlier record is of the same worker
earlier-worker : (entry : Record) (o : Option Record) → is_earlier_record entry o ≡ true → is_of_worker entry.worker o ≡ true
earlier-worker entry None h = cc
earlier-worker entry (Some other) h = by_test (is_placed other.outcome) (other.worker == entry.worker) h
  where
    by_test : (a b : Bool) → (a && (b && nat_lt other.turn entry.turn)) ≡ true → b ≡ true
    by_test true true h = refl
    by_test true false h = h
    by_test false b h = cc

-- The worker's own nodes by what the view has seen are those that stood earlier, if it has seen all records of the worker.
module _ (view : View) (words : Words) (entry : Record) (behind : AreBehind (sees view) words)
    (own : (k : ℕ) → is_of_worker entry.worker (record_at words k) ≡ true → sees view (RecordOf k) ≡ words (RecordOf k)) where
  earlier_seen : (k : ℕ) → is_earlier_record entry (record_at words k) ≡ is_earlier_record entry (record_at (sees view) k)
  earlier_seen k =
      elim (behind (RecordOf k)) [
        | inr same ↦
            ap (λ w. is_earlier_record entry (record_of_word w (words (FirstOf (suc k))))) (sym same)
            ∙ told-own (is_earlier_record entry) (λ word first other. refl) (sees view (RecordOf k)) (words (FirstOf (suc k))) (sees view (FirstOf (suc k)))
        | inl unseen ↦ by_test (is_earlier_record entry (record_at words k)) refl unseen
      ]
    where
      by_test : (b : Bool) → is_earlier_record entry (record_at words k) ≡ b → sees view (RecordOf k) ≡ 0
          → is_earlier_record entry (record_at words k) ≡ is_earlier_record entry (record_at (sees view) k)
      by_test false e unseen = e ∙ sym (ap (λ w. is_earlier_record entry (record_of_word w (sees view (FirstOf (suc k))))) unseen)
      by_test true e unseen =
          let seen = own k (earlier-worker entry (record_at words k) e) in
          ap (λ w. is_earlier_record entry (record_of_word w (words (FirstOf (suc k))))) (sym seen)
          ∙ told-own (is_earlier_record entry) (λ word first other. refl) (sees view (RecordOf k)) (words (FirstOf (suc k))) (sees view (FirstOf (suc k)))

  pub is_own_node-earlier : (n : ℕ) → is_own_node view entry n ≡ is_earlier (state_in view.run words) entry n
  is_own_node-earlier zero = refl
  is_own_node-earlier (suc k) = sym (earlier_seen k)

-- ---- as many nodes

-- There are no fewer nodes than those that a worker has placed, by the records that a view has seen.
pub own_count-most :
    (run : SharedRun) (words : Words) (views : List View) (id : ℕ) (view : View) → IsWorld run words views → get_elem? views id ≡ some view
    → view.run ≡ run → (entry : Record) → own_count view entry ≤ words Count
own_count-most run words views id view world at own entry =
    let marks : length view.run.marks ≡ length run.marks = ap (λ r. length r.marks) own in
    let next : length view.run.marks + 1 ≡ suc (length view.run.marks) = omega arith in
    let all =
    length-filter (is_own_node view entry) (range_with_len 0 (length view.run.marks + 1))
    ∙ ap (λ n. count_by (is_own_node view entry) (range_with_len 0 n)) next ∙ count-first (is_own_node view entry) (length view.run.marks) in
    let few =
    sum-le (λ k. once_if (is_own_node view entry (suc k))) (counted_once words views) (length view.run.marks) (λ k low. at_most k) in
    let same = ap (λ n. sum_by (counted_once words views) (range_with_len 0 n)) marks in
    omega (arith, all, few, same, world.links.count)
  where
    by_test : (a b : Bool) → (a ≡ true → b ≡ true) → once_if a ≤ once_if b
    by_test false b h = omega arith
    by_test true b h = omega (arith, ap once_if (h refl))

    at_most : (k : ℕ) → once_if (is_own_node view entry (suc k)) ≤ counted_once words views k
    at_most k =
        omega (
          arith,
          by_test (is_own_node view entry (suc k)) (has_node words (suc k))
              (λ h. node-now words view (world.seen.behind id view at) (suc k) (earlier-placed entry (record_at (sees view) k) h)),
        )

-- ---- stages

-- what a hand that has counted its node has done before
pub record HasCome (stage : Stage) : Type 0 where
  pub point : has_point stage ≡ true
  pub first : has_first stage ≡ true
  pub link : has_link stage ≡ true

pub has_come : (stage : Stage) → has_count stage ≡ true → HasCome stage
has_come Counted e = record { point = refl; first = refl; link = refl }
has_come Posted e = record { point = refl; first = refl; link = refl }
has_come stage e = cc

-- ---- what is seen against what is so

module _ (words : Words) (views : List View) (id : ℕ) (view : View) (world : IsWorld view.run words views) (at : get_elem? views id ≡ some view)
    {hand : Hand} {entry : Record} (made : MayFinish view hand entry) where
  abbrev own_run : SharedRun
  own_run = view.run

  abbrev setup : Setup
  setup = setup_in own_run

  abbrev state : TreeState
  state = state_in own_run words

  abbrev seen_points : List (Option Point)
  seen_points = (tree_seen view).points

  behind : AreBehind (sees view) words
  behind = world.seen.behind id view at

  tree : SeesTree view
  tree = world.sights id view at refl

  stands_now : (n : ℕ) (p : Point) → SeesPoint view n p → StandsAt state.points n p
  stands_now = (IsTrueOf-seen view words behind tree world.links.ways).places.nodes

  -- a node seen with its point is where it was seen
  same_at : (n : ℕ) → IsPresent seen_points n → point_at state.points n ≡ point_at seen_points n
  same_at n h =
      let stands = StandsAt-present seen_points n h in
      stands_now n (point_of seen_points n) stands ∙ sym stands

  same_point : (n : ℕ) → IsPresent seen_points n → point_of state.points n ≡ point_of seen_points n
  same_point n h = ap (λ o. unwrap_or o (record { x = 0; y = 0 })) (same_at n h)

  -- the view has seen all records of the worker
  own_records : (k : ℕ) → is_of_worker entry.worker (record_at words k) ≡ true → sees view (RecordOf k) ≡ words (RecordOf k)
  own_records k of =
      (world.turns.members id view at 0 made.member (ap (λ l. get_elem? l 0) made.first)).own k
      (subst (λ w. is_of_worker w (record_at words k) ≡ true) made.worker of)

  same_own : (n : ℕ) → is_own_node view entry n ≡ is_earlier state entry n
  same_own = is_own_node-earlier view words entry behind own_records

  own_of : (n : ℕ) → IsEarlier state entry n → IsTrue (is_own_node view entry n)
  own_of n early = same_own n ∙ early

  -- it sees its worker's own nodes, with what they were placed at
  own_seen : (n : ℕ) → IsTrue (is_own_node view entry n) → IsPresent seen_points n
  own_seen zero h = tree.rooted.start
  own_seen (suc k) h = tree.placed k (earlier-placed entry (record_at (sees view) k) h)

  own_cost : (n : ℕ) → IsTrue (is_own_node view entry n) → own_first_cost view n ≡ first_cost_of state n
  own_cost n h =
      let node = own_recorded view entry n h in
      let linked = node-linked own_run words views world.numbers world.links n (node-now words view behind n node) in
      sym (first-now words view behind tree world.links.ways world.trees.start_first n node)
      ∙ sym (first_cost-linked own_run words views world.numbers world.links world.trees.start_first n linked)

  -- ---- placed marks

  own_neighbour : (p : Point) (i : ℕ) → IsNeighbour setup state entry entry.class p i → IsOwnNeighbour view entry entry.class p i
  own_neighbour p i h =
      let own = own_of i h.earlier in
      let here = own_seen i own in
      record {
        own = own;
        near = subst (λ o. IsTrue (is_within p (radius_of_class own_run.step own_run.gamma entry.class) o)) (same_at i here) h.near;
        clear = subst (λ a. Clear setup.space a p) (same_point i here) h.clear;
      }

  as_many : earlier_count state entry ≡ own_count view entry
  as_many =
      let all : length state.points ≡ length own_run.marks + 1 = length-map-range_with_len (linked_point (run_sizes own_run) words) 0
      (length own_run.marks + 1) in
      length-filter (is_earlier state entry) (range_with_len 0 (length state.points)) ∙ ap (λ n. count_by (is_earlier state entry) (range_with_len 0 n)) all
      ∙ count-same (is_earlier state entry) (is_own_node view entry) (length own_run.marks + 1) (λ n low. sym (same_own n))
      ∙ sym (length-filter (is_own_node view entry) (range_with_len 0 (length own_run.marks + 1)))

  module _ (present : IsPresent seen_points entry.nearest) where
    -- what the worker knows
    IsChosenLawfully-seen :
        (p : Point) → p ≡ hand.point → MayBePlaced view hand entry entry.nearest (first_hanging entry)
        → IsChosenLawfully setup state entry entry.nearest (first_hanging entry) p (node_count state.points)
    IsChosenLawfully-seen p is may =
        subst (λ q. IsChosenLawfully setup state entry entry.nearest (first_hanging entry) q (node_count state.points)) (sym is) record {
          clear = subst (λ a. Clear setup.space a hand.point) (sym (same_point entry.nearest present)) may.clear;
          of_class = record {
            low = omega (arith, ap class_of as_many, may.low);
            high =
                omega (
                  arith,
                  may.high,
                  class_of-le (sees view Count) (node_count state.points) (omega (arith, behind Count, count-most own_run words views world.links world.trees)),
                );
          };
          chosen = λ i h.
              let own = own_neighbour hand.point i h in
              omega (
                arith,
                may.cost_is,
                may.chosen i own,
                own_cost i own.own,
                ap (λ a. cost_of a hand.point) (same_point i (own_seen i own.own)),
              );
          rewired = λ i h.
              let own = own_neighbour hand.point i h in
              let seen = may.rewired i own in
              omega (
                arith,
                may.cost_is,
                cost_in-falls (sees view (TreeOf i)) (words (TreeOf i)) seen.0 (behind (TreeOf i)),
                seen.1,
                ap (λ a. cost_of a hand.point) (same_point i (own_seen i own.own)),
              );
        }

    module _ (count : has_count hand.stage ≡ true) where
      come : HasCome hand.stage
      come = has_come hand.stage count

      holds : SeesHand view hand
      holds = tree.holds hand made.held

      first : IsFirstOf own_run words hand
      first = world.pairs.first id view at hand made.held come.first

      stands : StandsAt state.points (suc hand.mark) hand.point
      stands = stands_now (suc hand.mark) hand.point (holds.shown come.link)

      -- the nearest node steered to the point in hand
      hand_point : entry.nearest ≡ hand.nearest → steered (point_of seen_points entry.nearest) (mark_at own_run.marks hand.mark) own_run.step ≡ hand.point
      hand_point same =
          let step = holds.steered_from come.point in
          let from = ap (point_of seen_points) same ∙ ap (λ o. unwrap_or o (record { x = 0; y = 0 })) step.seen in
          ap (λ a. steered a (mark_at own_run.marks hand.mark) own_run.step) from ∙ sym step.reached

      placed_cost : first_cost_of state (suc hand.mark) ≡ hand.cost
      placed_cost =
          let linked = linked-present (run_sizes own_run) words (suc hand.mark) (IsPresent-stands state.points (suc hand.mark) hand.point stands) in
          first_cost-linked own_run words views world.numbers world.links world.trees.start_first (suc hand.mark) linked
          ∙ ap cost_in first.word ∙ cost_in-tree_word hand.parent hand.cost first.fits.0 first.fits.1

      -- what the tree knows
      HangsLawfully-seen :
          (p : Point) → p ≡ hand.point → MayBePlaced view hand entry entry.nearest (first_hanging entry)
          → HangsLawfully setup state hand.mark entry.nearest (first_hanging entry) p
      HangsLawfully-seen p is may =
          let here = IsPresent-stands state.points (suc hand.mark) hand.point stands in
          subst (HangsLawfully setup state hand.mark entry.nearest (first_hanging entry)) (sym is) record {
            stands = stands;
            hangs =
                subst (λ f. Hangs setup state (suc hand.mark) hand.point f entry.first_cost) (sym may.parent_is)
                (subst (Hangs setup state (suc hand.mark) hand.point hand.parent) (sym may.cost_is) first.hangs);
            nearest_other = λ e. holds.other come.point (sym may.nearest_is ∙ e);
            below_first = omega (arith, may.cost_is, ap (first_cost_through state hand.point) may.parent_is, first.below_first);
            below_nearest = omega (arith, may.cost_is, ap (first_cost_through state hand.point) may.nearest_is, first.below_nearest);
            bounded = omega (arith, may.cost_is, placed_cost, world.trees.first_costs.bounded (suc hand.mark) here);
            kept = omega (arith, may.cost_is, placed_cost, world.trees.first_costs.kept (suc hand.mark) here);
          }

    -- ---- the outcome

    placed_now : (p : Point) → p ≡ steered (point_of seen_points entry.nearest) (mark_at own_run.marks hand.mark) own_run.step
        → has_count hand.stage ≡ true → MayBePlaced view hand entry entry.nearest (first_hanging entry)
        → IsPlacedLawfully setup state hand.mark entry entry.nearest (first_hanging entry) p
    placed_now p is count may =
        let there = is ∙ hand_point count may.nearest_is in
        record { by_worker = IsChosenLawfully-seen p there may; by_tree = HangsLawfully-seen count p there may }

    blocked_now : (p : Point) → MayBeBlocked view entry entry.nearest p → IsBlockedLawfully setup state entry entry.nearest p
    blocked_now p may = record {
      blocked = λ clear. may.blocked (subst (λ a. Clear setup.space a p) (same_point entry.nearest present) clear);
      free = λ i early stands.
          let own = own_of i early in
          may.free i own (sym (same_at i (own_seen i own)) ∙ stands);
    }

  -- ---- marks that are skipped, and others

  -- if there is a goal node, there are goals
  informed : (i : ℕ) → IsGoalNode own_run.goals state.points i → IsInformed own_run
  informed i goal none = no_goal_node state.points i (subst (λ goals. IsGoalNode goals state.points i) none goal)

  -- what is above the bound of a mark in the best that was loaded is below the first cost of each own goal node
  cheaper_now :
      (i : ℕ) → IsTrue (is_own_node view entry i) → IsGoalNode own_run.goals state.points i
      → (word : ℕ) × (hand.best ≡ Some word) × (word ≢ no_best → mark_bound setup (mark_at own_run.marks hand.mark) < best_cost_in word)
      → mark_bound setup (mark_at own_run.marks hand.mark) < first_cost_of state i
  cheaper_now i own goal (word, taken, above) =
      let here = own_seen i own in
      let seen = subst (λ o. IsTrue (is_goal_point own_run.goals o)) (same_at i here) goal in
      let within : i < 2 ^ 18 = omega (arith, seen-within (run_sizes own_run) (sees view) i here, world.run_is.marks) in
      let least = ((world.bests id view at refl).taken hand word made.held taken).1 i (own_recorded view entry i own) seen in
      let some_pair : word ≢ no_best = λ none. omega (arith, none, within, first_cost-small i, least) in
      omega (arith, above some_pair, div-add-mod' word (2 ^ 18), within, least, own_cost i own)
    where
      first_cost-small : (n : ℕ) → own_first_cost view n < 2 ^ 44
      first_cost-small zero = omega arith
      first_cost-small (suc k) = mod_below (sees view (FirstOf (suc k)) / 2 ^ 18) (2 ^ 44) (omega arith)

  -- a mark that may be skipped is skipped lawfully
  skipped_now : MayBeSkipped view hand entry.nearest → IsSkippedLawfully setup state (mark_at own_run.marks hand.mark) entry.nearest
  skipped_now may =
      let pair = (world.bests id view at refl).taken_pair hand may.word made.held may.taken may.some_node in
      record {
        goal = subst (IsGoalNode own_run.goals state.points) (sym may.node) pair.0;
        within = omega (arith, ap state.cost may.node, pair.1, may.within);
      }

  -- A nearest node that was seen is lawful, and steers to the same point.
  IsSteeredLawfully-own :
      (reached : Reached) → (IsPresent seen_points entry.nearest → (p : Point)
      → p ≡ steered (point_of seen_points entry.nearest) (mark_at own_run.marks hand.mark) own_run.step
      → MayReach view hand entry entry.nearest reached p → ReachesLawfully setup state hand.mark entry entry.nearest reached p)
      → IsUnskipped view hand → MaySteer view hand entry entry.nearest reached
      → IsSteeredLawfully setup state hand.mark (mark_at own_run.marks hand.mark) entry entry.nearest reached
  IsSteeredLawfully-own reached now unskipped may =
      let mark : Point = mark_at own_run.marks hand.mark in
      record {
        cheaper = λ i early goal. cheaper_now i (own_of i early) goal (unskipped (informed i goal));
        present = ap is_some (same_at entry.nearest may.present) ∙ may.present;
        nearest = λ i early.
            let own = own_of i early in
            let h = may.nearest i own in
            let near = ap (λ a. squared_distance a mark) (same_point entry.nearest may.present) in
            let other = ap (λ a. squared_distance a mark) (same_point i (own_seen i own)) in
            record { least = omega (arith, near, other, h.least); first = λ e. h.first (omega (arith, near, other, e)) };
        outcome =
            subst (λ a. ReachesLawfully setup state hand.mark entry entry.nearest reached (steered a mark own_run.step))
            (sym (same_point entry.nearest may.present))
            (now may.present (steered (point_of seen_points entry.nearest) mark own_run.step) refl may.outcome);
      }

  -- What the view allows to be recorded is lawful.
  IsLawfulRecord-own : IsLawfulRecord setup state hand.mark (mark_at own_run.marks hand.mark) entry
  IsLawfulRecord-own = by_outcome entry.outcome refl made.true
    where
      counted : entry.outcome ≡ Placed → has_count hand.stage ≡ true
      counted e = sym made.stage.counted ∙ ap is_placed e

      by_outcome : (outcome : Outcome) → entry.outcome ≡ outcome → MayEnd view hand entry (ending_as entry outcome)
          → HasLawfulEnding setup state hand.mark (mark_at own_run.marks hand.mark) entry (ending_as entry outcome)
      by_outcome Placed e placed =
          IsSteeredLawfully-own (NewNode (first_hanging entry)) (λ present p is ended. placed_now present p is (counted e) ended)
          ((tree.holds hand made.held).unskipped (has_come hand.stage (counted e)).point) placed
      by_outcome (Same j) e same =
          IsSteeredLawfully-own (SameNode j) (λ present p is ended. stands_now j p ended.1) same.outcome.0 same
      by_outcome Blocked e blocked =
          IsSteeredLawfully-own NoWay (λ present p is ended. blocked_now present p ended.1) blocked.outcome.0 blocked
      by_outcome Skipped e skipped = skipped_now skipped

  -- Its first word has its first parent and its first cost, if it was placed.
  IsFirstWord-own : IsFirstWord entry (words (FirstOf (suc hand.mark)))
  IsFirstWord-own = by_outcome entry.outcome refl made.true
    where
      unplaced : (outcome : Outcome) → entry.outcome ≡ outcome → outcome ≢ Placed
          → IsTrue (entry.first_parent == 0 && (entry.first_cost == 0 && entry.class == 0)) → IsFirstWord entry (words (FirstOf (suc hand.mark)))
      unplaced outcome e other zero_fields =
          let fields = zeros entry.first_parent entry.first_cost entry.class zero_fields in
          record {
            word = λ placed. absurd (other (sym e ∙ placed));
            parent = omega (arith, fields.parent_is);
            cost = omega (arith, fields.cost_is);
          }

      by_outcome : (outcome : Outcome) → entry.outcome ≡ outcome → MayEnd view hand entry (ending_as entry outcome)
          → IsFirstWord entry (words (FirstOf (suc hand.mark)))
      by_outcome Placed e ended =
          let placed = ended.outcome in
          let first = world.pairs.first id view at hand made.held (has_come hand.stage (sym made.stage.counted ∙ ap is_placed e)).first in
          record {
            word = λ is. first.word ∙ ap (λ f. tree_word f hand.cost) (sym placed.parent_is) ∙ ap (tree_word entry.first_parent) (sym placed.cost_is);
            parent = omega (arith, placed.parent_is, first.fits.0);
            cost = omega (arith, placed.cost_is, first.fits.1);
          }
      by_outcome (Same j) e same = unplaced (Same j) e (λ no. cc) (unplaced_at entry (Same j) e)
      by_outcome Blocked e blocked = unplaced Blocked e (λ no. cc) (unplaced_at entry Blocked e)
      by_outcome Skipped e skipped = unplaced Skipped e (λ no. cc) (unplaced_at entry Skipped e)

-- the same of a view of the run
pub IsLawfulRecord-seen :
    {now : Moment} → IsMoment now → {hand : Hand} {entry : Record} → MayFinish now.view hand entry
    → IsLawfulRecord (setup_in now.run) (state_in now.run now.words) hand.mark (mark_at now.run.marks hand.mark) entry
IsLawfulRecord-seen {now} is {hand} {entry} may =
    subst (λ r. IsWorld r now.words now.views → IsLawfulRecord (setup_in r) (state_in r now.words) hand.mark (mark_at r.marks hand.mark) entry) is.own
    (λ here. IsLawfulRecord-own now.words now.views now.id now.view here is.at may) is.world

pub IsFirstWord-seen :
    {now : Moment} → IsMoment now → {hand : Hand} {entry : Record} → MayFinish now.view hand entry → IsFirstWord entry (now.words (FirstOf (suc hand.mark)))
IsFirstWord-seen {now} is may = IsFirstWord-own now.words now.views now.id now.view (subst (λ r. IsWorld r now.words now.views) (sym is.own) is.world) is.at may
