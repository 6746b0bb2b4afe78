-- A textbook run follows a route of open links: by induction over the links, the node that stands where a link begins is an earlier one of
-- the record of the mark where it ends.
use Rattle.route_laws.proofs.Words.{◌≡◌, ◌⊎◌, inl, inr, ℕ, zero, suc, ◌≤◌, true, List, [], ◌∷◌, length, map, Option, Some, None, arith, refl, sym, ap, ◌∙◌}
use Rattle.route_laws.proofs.Words.{subst, ◌&&◌, All, IsSome, eqb, ltb, and_from, eq-eqb, lt-ltb, All-cons, All-nil, AreLinks, HasGoalNode, IsOpenLink}
use Rattle.route_laws.proofs.Words.{IsReached, IsRoute, Rise}
use Rattle.route_laws.proofs.Common.{Point, Placed, Same, Record, IsClosed, mark_at, is_placed, IsEarlier, is_earlier_record, IsOfTextbookRun, Setup, ClearAt}
use Rattle.route_laws.proofs.Common.{IsPresent, StandsAt, TreeState, no_goal_node, IsPresent-stands, record-of_present, IsClosed-of_textbook}
use Rattle.route_laws.proofs.FollowedLinks.{EndsThere-lawful}
use Rattle.route_laws.proofs.TextbookRecords.{IsInTurn, IsInTurn-textbook}

-- what is recorded
pub record_there : (o : Option Record) → IsSome o → (entry : Record) × (o ≡ Some entry)
record_there None h = cc
record_there (Some entry) h = (entry, refl)

module _
    (setup : Setup) (marks : List Point) (state : TreeState) (clear : ClearAt setup.space setup.start)
    (of_run : IsOfTextbookRun setup marks state) where
  pub closed : IsClosed setup marks (length marks) state
  closed = IsClosed-of_textbook setup marks state clear of_run

  pub in_turn : (k : ℕ) (entry : Record) → state.record_of k ≡ Some entry → IsInTurn k entry
  in_turn k entry h =
      IsInTurn-textbook setup marks of_run.nodes of_run.records of_run.run k entry (sym (of_run.same.records k) ∙ h)

  -- a node is an earlier one of each record whose mark has no lower number
  pub IsEarlier-below : (n k : ℕ) (entry : Record) → IsPresent state.points n → state.record_of k ≡ Some entry → n ≤ k → IsEarlier state entry n
  IsEarlier-below zero k entry here h low = refl
  IsEarlier-below (suc j) k entry here h low =
      let own = record-of_present state closed.placed j here in
      let mine = in_turn j own.0 own.1 in
      let other = in_turn k entry h in
      let turns : ltb own.0.turn entry.turn ≡ true = lt-ltb own.0.turn entry.turn (omega (arith, mine.turn, other.turn, low)) in
      let workers : eqb own.0.worker entry.worker ≡ true = eq-eqb own.0.worker entry.worker (mine.worker ∙ sym other.worker) in
      ap (is_earlier_record entry) own.1
      ∙ and_from (is_placed own.0.outcome) (eqb own.0.worker entry.worker && ltb own.0.turn entry.turn) (ap is_placed own.2)
      (and_from (eqb own.0.worker entry.worker) (ltb own.0.turn entry.turn) workers turns)

  abbrev IsFollowed : List ℕ → Type 0
  IsFollowed numbers = All (IsReached marks state.points) numbers ⊎ HasGoalNode setup.goals state.points

  -- one point more is followed
  IsFollowed-cons : (k n : ℕ) (numbers : List ℕ) → n ≤ suc k → StandsAt state.points n (mark_at marks k) → IsFollowed numbers → IsFollowed (k ∷ numbers)
  IsFollowed-cons k n numbers low stands (inl rest) = inl (All-cons (IsReached marks state.points) k numbers (n, low, stands) rest)
  IsFollowed-cons k n numbers low stands (inr goal) = inr goal

  -- the number of the node at which mark k ended
  low_number : (k n : ℕ) (entry : Record) → state.record_of k ≡ Some entry → ((n ≡ suc k) × (entry.outcome ≡ Placed)) ⊎ (entry.outcome ≡ Same n) → n ≤ suc k
  low_number k n entry h (inl new) = omega (arith, new.0)
  low_number k n entry h (inr same) = omega (arith, (in_turn k entry h).stood n same)

  -- the rest of a route, from a node that stands where it begins
  follows :
      (numbers : List ℕ) (first n : ℕ) (a : Point) → n ≤ first → StandsAt state.points n a → Rise first (length marks) numbers
      → AreLinks (IsOpenLink setup) a (map (mark_at marks) numbers) → IsFollowed numbers
  follows [] first n a low stands rise links = inl (All-nil (IsReached marks state.points))
  follows (k ∷ numbers) first n a low stands rise links =
      let own = record_there (state.record_of k) (closed.records.recorded k rise.1) in
      let earlier = IsEarlier-below n k own.0 (IsPresent-stands state.points n a stands) own.1 (omega (arith, low, rise.0)) in
      elim (EndsThere-lawful setup marks (length marks) state closed k n a (mark_at marks k) own.0 stands earlier links.0 own.0.outcome refl
      (closed.lawful k own.0 own.1)) [
        | inl ends ↦ (
            let number = low_number k ends.0 own.0 own.1 ends.1 in
            IsFollowed-cons k ends.0 numbers number ends.2 (follows numbers (suc k) ends.0 (mark_at marks k) number ends.2 rise.2 links.1))
        | inr goal ↦ inr goal
      ]

  pub IsReached-open_route : (numbers : List ℕ) → IsRoute setup marks (IsOpenLink setup) numbers → IsFollowed numbers
  IsReached-open_route numbers route =
      follows numbers 0 0 setup.start (omega arith) closed.order.start_stands route.rise route.links

  -- no mark is skipped if there are no goals to skip by
  pub IsReached-none_skipped :
      (numbers : List ℕ) → IsRoute setup marks (IsOpenLink setup) numbers → setup.goals ≡ [] → All (IsReached marks state.points) numbers
  IsReached-none_skipped numbers route none =
      elim (IsReached-open_route numbers route) [
        | inl reached ↦ reached
        | inr goal ↦ absurd (no_goal_node state.points goal.0 (subst (λ goals. HasGoalNode goals state.points) none goal).1)
      ]
