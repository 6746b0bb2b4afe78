-- In a closed run each mark below the limit was placed, ended on a node, was blocked or was skipped, so these add up to the limit, and none
-- was skipped if there are no goals to skip by.
use Rattle.plan_model.proofs.Words.{◌≡◌, ℕ, zero, suc, ◌+◌, ◌<◌, Bool, true, false, cond, List, [], length, Option, Some, None, subst, arith, refl, sym, ap}
use Rattle.plan_model.proofs.Words.{◌∙◌, inl, inr, IsSome, cases_lt, true≢false, Point, Outcome, Placed, Same, Blocked, Skipped, Record, is_placed, is_same}
use Rattle.plan_model.proofs.Words.{is_blocked, AreNumberedTo, node_count, TreeState, has_outcome, mark_at, outcome_count, IsClosed, HasLawfulEnding, ending_as}
use Rattle.plan_model.proofs.Words.{IsGoalNode, Setup}
use Rattle.plan_model.specs.Runs.Outcomes.{is_skipped}
use Rattle.plan_model.proofs.CountsBelow.{count-more, count-longer, count-none}
use Rattle.plan_model.proofs.GoalNodes.{no_goal_node}
use Rattle.plan_model.proofs.NodeCounts.{count-next}
use Rattle.plan_model.proofs.OrderLaws.{start-present}
use Rattle.plan_model.proofs.PlacedNodes.{record-of_present}

one_outcome : (outcome : Outcome)
    → ((cond (is_placed outcome) 1 0 + cond (is_same outcome) 1 0) + cond (is_blocked outcome) 1 0) + cond (is_skipped outcome) 1 0 ≡ 1
one_outcome Placed = refl
one_outcome (Same j) = refl
one_outcome Blocked = refl
one_outcome Skipped = refl

-- a record has one outcome
one_of_four :
    (o : Option Record) → IsSome o
    → ((cond (has_outcome is_placed o) 1 0 + cond (has_outcome is_same o) 1 0) + cond (has_outcome is_blocked o) 1 0)
    + cond (has_outcome is_skipped o) 1 0 ≡ 1
one_of_four None h = cc
one_of_four (Some entry) h = one_outcome entry.outcome

-- how many marks below the limit were placed, ended on a node, were blocked and were skipped, all together
abbrev pub outcomes_below : (ℕ → Option Record) → ℕ → ℕ
outcomes_below record_of limit =
    ((outcome_count record_of limit is_placed + outcome_count record_of limit is_same) + outcome_count record_of limit is_blocked)
    + outcome_count record_of limit is_skipped

-- if each mark below the limit has a record, the outcomes add up to the limit
pub outcomes-add_up :
    (record_of : ℕ → Option Record) (limit : ℕ) → ((k : ℕ) → k < limit → IsSome (record_of k))
    → outcomes_below record_of limit ≡ limit
outcomes-add_up record_of zero all = refl
outcomes-add_up record_of (suc limit) all =
    let before = outcomes-add_up record_of limit (λ k below. all k (omega arith)) in
    let here = one_of_four (record_of limit) (all limit (omega arith)) in
    omega (
      arith,
      count-more (λ k. has_outcome is_placed (record_of k)) limit,
      count-more (λ k. has_outcome is_same (record_of k)) limit,
      count-more (λ k. has_outcome is_blocked (record_of k)) limit,
      count-more (λ k. has_outcome is_skipped (record_of k)) limit,
      before,
      here,
    )

-- the outcomes add up to the limit in a closed run
pub outcomes-closed :
    (setup : Setup) (marks : List Point) (limit : ℕ) (state : TreeState) → IsClosed setup marks limit state
    → outcomes_below state.record_of limit ≡ limit
outcomes-closed setup marks limit state closed = outcomes-add_up state.record_of limit closed.records.recorded

-- a lawful record is not of a skipped mark, if there are no goals to skip by
not_skipped :
    (setup : Setup) (state : TreeState) (k : ℕ) (mark : Point) (entry : Record) (outcome : Outcome) → setup.goals ≡ []
    → HasLawfulEnding setup state k mark entry (ending_as entry outcome) → is_skipped outcome ≡ false
not_skipped setup state k mark entry Placed none h = refl
not_skipped setup state k mark entry (Same j) none h = refl
not_skipped setup state k mark entry Blocked none h = refl
not_skipped setup state k mark entry Skipped none h =
    absurd (no_goal_node state.points entry.nearest (subst (λ goals. IsGoalNode goals state.points entry.nearest) none h.goal))

-- in a closed run without goals to skip by no mark is skipped
pub none_skipped-closed :
    (setup : Setup) (marks : List Point) (limit : ℕ) (state : TreeState) → IsClosed setup marks limit state
    → setup.goals ≡ [] → outcome_count state.record_of limit is_skipped ≡ 0
none_skipped-closed setup marks limit state closed none =
    count-none (λ k. has_outcome is_skipped (state.record_of k)) limit (λ k below. of_record k (state.record_of k) refl)
  where
    of_record : (k : ℕ) (o : Option Record) → state.record_of k ≡ o → has_outcome is_skipped o ≡ false
    of_record k None h = refl
    of_record k (Some entry) h = not_skipped setup state k (mark_at marks k) entry entry.outcome none (closed.lawful k entry h)

-- ---- nodes

module _ (setup : Setup) (marks : List Point) (limit : ℕ) (state : TreeState) (closed : IsClosed setup marks limit state) where
  placed : ℕ → Bool
  placed k = has_outcome is_placed (state.record_of k)

  placed_below : (k : ℕ) → placed k ≡ true → k < limit
  unfolding placed
  placed_below k h =
      elim (cases_lt k limit) [
        | inl below ↦ below
        | inr past ↦ absurd (true≢false (sym h ∙ ap (has_outcome is_placed) (closed.records.none_else k past)))
      ]

  -- In a closed run there are as many nodes as placed marks, and the start.
  pub node_count-closed : node_count state.points ≡ suc (outcome_count state.record_of limit is_placed)
  unfolding placed
  node_count-closed =
      let n : ℕ = limit + length state.points in
      let nodes =
      count-next state.points placed n (start-present setup state closed.order) (omega arith) (λ k. sym (closed.placed k)) in
      omega (arith, nodes, count-longer placed limit n (omega arith) placed_below)

  -- no node has a number past the limit
  pub numbers-closed : AreNumberedTo limit state.points
  numbers-closed zero h = omega arith
  numbers-closed (suc k) h =
      let own = record-of_present state closed.placed k h in
      let found : state.record_of k ≡ Some own.0 = own.1 in
      elim (cases_lt k limit) [
        | inl below ↦ omega (arith, below)
        | inr past ↦ (let none = closed.records.none_else k past in cc)
      ]
