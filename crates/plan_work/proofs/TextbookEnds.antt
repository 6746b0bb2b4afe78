-- Textbook runs at their two ends: the start alone, and all marks of a scene.
use Rattle.plan_work.proofs.Words.{◌≡◌, [], length, take, sym, ap, ◌∙◌, subst, arith, take_all, mark_points, IsOfTextbookRun, IsTextbookRun, setup_of}
use Rattle.plan_work.proofs.Words.{start_alone, AreSameRuns, state_of, Scene, Task, state_of_grown, IsOfTextbook, Grown}

-- the start alone is the run over no marks
pub IsOfTextbook-new :
    (task : Task) (grown : Grown) → grown.task ≡ task → grown.limit ≡ 0
    → AreSameRuns (state_of (start_alone task.scene.start) []) (state_of_grown grown) → IsOfTextbook grown
IsOfTextbook-new task grown same_task none same = record {
  nodes = start_alone task.scene.start;
  records = [];
  run =
      subst (λ n. IsTextbookRun (setup_of grown.task.scene) (take n grown.task.marks) (start_alone task.scene.start) []) (sym none)
      (ap (λ (t : Task). start_alone t.scene.start) (sym same_task));
  same = same;
}

-- the run over all marks below its limit is that over all marks of its scene, where the limit is their number
pub IsOfTextbookRun-whole :
    (scene : Scene) (grown : Grown) → grown.task.scene ≡ scene → grown.limit ≡ length (mark_points scene) → IsOfTextbook grown
    → IsOfTextbookRun (setup_of scene) (mark_points scene) (state_of_grown grown)
IsOfTextbookRun-whole scene grown of_scene whole textbook =
    let all : take grown.limit grown.task.marks ≡ mark_points scene =
    ap (take grown.limit) (grown.task.of_scene ∙ ap mark_points of_scene) ∙ ap (λ n. take n (mark_points scene)) whole
    ∙ take_all (length (mark_points scene)) (mark_points scene) (omega arith) in
    subst (λ (s : Scene). IsOfTextbookRun (setup_of s) (mark_points scene) (state_of_grown grown)) of_scene
    (subst (λ marks. IsOfTextbookRun (setup_of grown.task.scene) marks (state_of_grown grown)) all textbook)
