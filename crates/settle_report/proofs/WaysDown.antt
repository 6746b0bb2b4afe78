-- Ways down a tree by a list of children: costs rise along them, and a climb makes one longer at its upper end.
use Rattle.settle_report.proofs.Words.{◌≡◌, ◌≢◌, ℕ, zero, suc, ◌<◌, ◌≤◌, List, length, set, arith, refl, sym, ap, subst, slice_index, get_or-set_at}
use Rattle.settle_report.proofs.Words.{get_or-set_other, FallAlong, TreeState, IsChildOf, LeadsDown, LeadsDownBy}

module _ (state : TreeState) (fall : FallAlong state.cost state.points state.parent) where
  pub child_costs_more : (parent n : ℕ) → IsChildOf state parent n → state.cost parent < state.cost n
  child_costs_more parent zero child = absurd (omega (arith, child.other))
  child_costs_more parent (suc n) child = omega (arith, fall.falls n child.present, ap state.cost child.hangs)

  -- costs rise on the way down
  costs_rise : (steps : ℕ) (child_of : List ℕ) (from to : ℕ) → LeadsDownBy steps state child_of from to → state.cost from ≤ state.cost to
  costs_rise zero child_of from to way = omega (arith, ap state.cost way)
  costs_rise (suc steps) child_of from to way =
      omega (arith, child_costs_more from (slice_index child_of from) way.0, costs_rise steps child_of (slice_index child_of from) to way.1)

  pub rises-LeadsDown : (child_of : List ℕ) (from to : ℕ) → LeadsDown state child_of from to → state.cost from ≤ state.cost to
  rises-LeadsDown child_of from to way = costs_rise way.0 child_of from to way.1

  -- a child that is noted at a node of lesser cost leaves the way as it was
  noted_above : (steps : ℕ) (child_of : List ℕ) (from to m child : ℕ) → state.cost m < state.cost from → LeadsDownBy steps state child_of from to
      → LeadsDownBy steps state (set child_of m child) from to
  noted_above zero child_of from to m child less way = way
  noted_above (suc steps) child_of from to m child less way =
      let same : slice_index (set child_of m child) from ≡ slice_index child_of from =
      get_or-set_other child_of m from child 0 (λ e. omega (arith, less, ap state.cost e)) in
      let lesser : state.cost m < state.cost (slice_index child_of from) = omega (arith, less, child_costs_more from (slice_index child_of from) way.0) in
      let down = noted_above steps child_of (slice_index child_of from) to m child lesser way.1 in
      subst (λ k. IsChildOf state from k × LeadsDownBy steps state (set child_of m child) k to) (sym same) (way.0, down)

  -- one step more at the upper end
  pub LeadsDown-up : (child_of : List ℕ) (parent from to : ℕ) → parent < length child_of → IsChildOf state parent from
      → LeadsDown state child_of from to → LeadsDown state (set child_of parent from) parent to
  LeadsDown-up child_of parent from to within child way = (
    suc way.0,
    subst (λ k. IsChildOf state parent k × LeadsDownBy way.0 state (set child_of parent from) k to)
        (sym (get_or-set_at child_of parent parent from 0 refl within))
        (child, noted_above way.0 child_of from to parent from (child_costs_more parent from child) way.1),
  )

  -- the next node on a way that is not at its end
  pub next-LeadsDown : (child_of : List ℕ) (from to : ℕ) → from ≢ to → LeadsDown state child_of from to
      → IsChildOf state from (slice_index child_of from) × LeadsDown state child_of (slice_index child_of from) to
  next-LeadsDown child_of from to apart way = by_steps way.0 way.1
    where
      by_steps : (steps : ℕ) → LeadsDownBy steps state child_of from to
          → IsChildOf state from (slice_index child_of from) × LeadsDown state child_of (slice_index child_of from) to
      by_steps zero at_end = absurd (apart at_end)
      by_steps (suc steps) down = (down.0, (steps, down.1))
