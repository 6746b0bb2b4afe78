-- What a scene and the scene from its other end have in common, and whole runs of either.
use Rattle.twin_trees.proofs.Words.{◌≡◌, ◌<◌, ℕ, List, Some, length, ap, sym, subst, ◌∙◌, IsClosed, IsOfTextbookRun, setup_of, mark_points, ClearAt, space_of}
use Rattle.twin_trees.proofs.Words.{IsSettled, Point, Record, Scene, Task, state_of_grown, Grown, IsTurnedRound, goal_middle, IsTwin, IsWholeRun, Twin}

module _ (scene turned : Scene) (h : IsTurnedRound scene turned) where
  -- one collision checker serves both
  pub space-turned : space_of turned ≡ space_of scene
  space-turned = ap space_of h.is

  -- the second start is clear if the middle of the first goal is
  pub ClearAt-turned : ClearAt (space_of scene) (goal_middle scene) → ClearAt (space_of turned) turned.start
  ClearAt-turned clear =
      subst (λ space. ClearAt space turned.start) (sym space-turned) (subst (ClearAt (space_of scene)) (sym (ap (λ (s : Scene). s.start) h.is)) clear)

-- a settled run by so many workers over all marks of a task is a whole run of its scene
pub IsWholeRun-settled : (workers : ℕ) (grown : Grown) (task : Task) → grown.task ≡ task → grown.limit ≡ length task.marks
    → IsSettled (state_of_grown grown)
    → ((k : ℕ) (entry : Record) → (state_of_grown grown).record_of k ≡ Some entry → entry.worker < workers)
    → (workers ≡ 1 → IsOfTextbookRun (setup_of task.scene) (mark_points task.scene) (state_of_grown grown))
    → IsWholeRun workers task.scene grown
IsWholeRun-settled workers grown task same all settled by_workers textbook =
    let state = state_of_grown grown in
    let own : IsClosed (setup_of task.scene) task.marks grown.limit state =
    subst (λ (t : Task). IsClosed (setup_of t.scene) t.marks grown.limit state) same grown.hold_run.closed in
    let whole : IsClosed (setup_of task.scene) task.marks (length task.marks) state =
    subst (λ limit. IsClosed (setup_of task.scene) task.marks limit state) all own in
    record {
      scene_is = ap (λ (t : Task). t.scene) same;
      all_marks = all ∙ ap length task.of_scene;
      closed = subst (λ (marks : List Point). IsClosed (setup_of task.scene) marks (length marks) state) task.of_scene whole;
      settled = settled;
      by_workers = by_workers;
      textbook = textbook;
    }

-- the second run of a twin starts in the middle of the first goal, so that is clear
pub ClearAt-middle : (workers : ℕ) (scene : Scene) (twin : Twin) → IsTwin workers scene twin → ClearAt (space_of scene) (goal_middle scene)
ClearAt-middle workers scene twin h =
    let clear = h.from_goal.closed.order.start_clear in
    subst (ClearAt (space_of scene)) (ap (λ (s : Scene). s.start) h.turned_round.is)
    (subst (λ space. ClearAt space h.turned.start) (space-turned scene h.turned h.turned_round) clear)
