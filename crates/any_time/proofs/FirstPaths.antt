-- The nodes that a run has are those of a later run with numbers up to its limit; so the first path comes with the first goal node.
use Rattle.any_time.proofs.Words.{◌≡◌, ◌<◌, ◌≤◌, ◌+◌, ◌*◌, ℕ, zero, suc, Option, Some, None, inl, inr, refl, sym, ap, ◌∙◌, subst, arith, min, IsSome, IsTrue}
use Rattle.any_time.proofs.Words.{mul-le-mul_right, min-le_left, min-le_right, cases_lt, IsPresent-goal, present-of_record, record-of_present, point_at-grows}
use Rattle.any_time.proofs.Words.{goals_of, is_goal_point, IsPresent, point_at, GrowsInto, Record, Scene, Task, start_present-held, state_of_grown}
use Rattle.any_time.proofs.Words.{words_of_grown, Grown, best_sum, AreSlices, HaveGoalNode}
use Rattle.any_time.proofs.BestNodes.{none-best}

pub some_entry : (o : Option Record) → IsSome o → (entry : Record) × (o ≡ Some entry)
some_entry None h = cc
some_entry (Some entry) h = (entry, refl)

module _ (run later : Grown) (grows : GrowsInto (state_of_grown run) (state_of_grown later)) where
  -- a node of the later run with a number up to the limit is one already
  pub IsPresent-before : (n : ℕ) → n ≤ run.limit → IsPresent (state_of_grown later).points n → IsPresent (state_of_grown run).points n
  IsPresent-before zero low h = start_present-held run.task run.limit (words_of_grown run) run.hold_run
  IsPresent-before (suc k) low h =
      let old = some_entry _ (run.hold_run.closed.records.recorded k (omega (arith, low))) in
      let placed = record-of_present (state_of_grown later) later.hold_run.closed.placed k h in
      let kept = grows.records k old.0 old.1 in
      let same : old.0 ≡ placed.0 = (let both = sym kept ∙ placed.1 in cc) in
      present-of_record (state_of_grown run) run.hold_run.closed.placed k old.0 old.1 (ap (λ (e : Record). e.outcome) same ∙ placed.2)

  -- so without a best sum none of them lies in a goal
  pub none_below : later.task ≡ run.task → best_sum run ≡ None → (marks : ℕ) → marks ≤ run.limit → ¬ HaveGoalNode later marks
  none_below task none marks few (n, low, goal) =
      let here = IsPresent-before n (omega (arith, low, few)) (IsPresent-goal (goals_of later.task.scene) (point_at (state_of_grown later).points n) goal) in
      let own = subst (λ (s : Scene). IsTrue (is_goal_point (goals_of s) (point_at (state_of_grown later).points n)))
      (ap (λ (t : Task). t.scene) task) goal in
      none-best run none n (subst (λ o. IsTrue (is_goal_point (goals_of run.task.scene) o))
      (point_at-grows (state_of_grown run) (state_of_grown later) grows n here) own)

-- the limit that a slice leads to
next_low : (limit slice all next : ℕ) → next ≡ min (limit + slice) all → next ≤ limit + slice
next_low limit slice all next e = subst (λ m. m ≤ limit + slice) (sym e) (min-le_left (limit + slice) all)

next_within : (limit slice all next : ℕ) → next ≡ min (limit + slice) all → next ≤ all
next_within limit slice all next e = subst (λ m. m ≤ all) (sym e) (min-le_right (limit + slice) all)

-- a number of whole slices below the next limit is not above this one
slices_below : (slice k j next : ℕ) → next ≤ j * slice + slice → k * slice < next → k * slice ≤ j * slice
slices_below slice k j next low less =
    elim (cases_lt j k) [
      | inl above ↦ (let far : suc j * slice ≤ k * slice = mul-le-mul_right slice (omega (arith, above)) in
          let one : suc j * slice ≡ j * slice + slice = omega arith in absurd (omega (arith, far, one, low, less)))
      | inr within ↦ mul-le-mul_right slice within
    ]

-- such a number below the next limit is not above this one
pub below_next : (slice all limit next : ℕ) → AreSlices slice all limit → limit < next → next ≡ min (limit + slice) all
    → (marks : ℕ) → AreSlices slice all marks → marks < next → marks ≤ limit
below_next slice all limit next at more is marks whole less =
    let within = next_within limit slice all next is in
    let low = next_low limit slice all next is in
    elim at.1 [
      | inl (j, here) ↦ elim whole.1 [
        | inl (k, there) ↦
            let near = slices_below slice k j next (omega (arith, low, here)) (omega (arith, less, there)) in omega (arith, near, here, there)
        | inr every ↦ absurd (omega (arith, every, less, within))
      ]
      | inr every ↦ absurd (omega (arith, every, more, within))
    ]

-- after the next marks the run has handled a number of whole slices, or all
pub AreSlices-next : (slice all limit next : ℕ) → AreSlices slice all limit → limit < next → next ≡ min (limit + slice) all → AreSlices slice all next
AreSlices-next slice all limit next at more is =
    let within = next_within limit slice all next is in (
      within,
      elim at.1 [
        | inl (k, here) ↦ elim (cases_lt all (limit + slice)) [
          | inl past ↦ inr (omega (arith, is, past))
          | inr short ↦ let one : suc k * slice ≡ k * slice + slice = omega arith in inl (suc k, omega (arith, is, short, here, one))
        ]
        | inr every ↦ absurd (omega (arith, every, more, within))
      ],
    )
