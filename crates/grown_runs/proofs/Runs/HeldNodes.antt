-- The nodes of a closed run: the start is one, stands at its place below itself and costs nothing, and none is past the limit.
use Rattle.grown_runs.proofs.Words.{ℕ, ◌≤◌, sym, ◌∙◌, inl, inr, cases_lt, Task, StandsAt, IsPresent, IsPresent-stands, Words, HoldRun, points_of_words}
use Rattle.grown_runs.proofs.Words.{sizes_of}
use Rattle.grown_runs.proofs.Runs.GrownPoints.{has_node-present}
use Rattle.grown_runs.proofs.Runs.HeldRuns.{none_past-held}

module _ (task : Task) (limit : ℕ) (words : Words) (held : HoldRun task limit words) where
  -- the start is present
  pub start_present-held : IsPresent (points_of_words (sizes_of task) words) 0
  start_present-held =
      IsPresent-stands (points_of_words (sizes_of task) words) 0 task.scene.start held.closed.order.start_stands

  -- the start stands at its place
  pub start_stands-held : StandsAt (points_of_words (sizes_of task) words) 0 task.scene.start
  start_stands-held = held.closed.order.start_stands

  -- a node's number is at most the limit
  pub node-held : (n : ℕ) → IsPresent (points_of_words (sizes_of task) words) n → n ≤ limit
  node-held n here =
      elim (cases_lt limit n) [
        | inl past ↦ (let gone = sym (has_node-present (sizes_of task) words n here) ∙ none_past-held task limit words held n past in cc)
        | inr within ↦ within
      ]
