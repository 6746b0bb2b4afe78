-- What is reported of a run, and of the scene that it is of.
use Rattle.planner.proofs.Words.{◌≡◌, ℕ, Option, List, length, None, Some, IfSome, refl, subst, is_some, Point, Scene, best_node, goals_of, IsClosed}
use Rattle.planner.proofs.Words.{mark_points, IsOfTextbookRun, Setup, setup_of, IsPresent, IsSettled, TreeState, state_of_grown, Grown, IsBridge, Done}
use Rattle.planner.proofs.Words.{HandsOutRunAlone, Report, ReportsGrown, ReportsScene, ReportsTwin, status_of_report}

-- a settled run over all marks of its scene is reported by its status and such a text; that it is closed, its type says
pub ReportsGrown-answer :
    (report : Report) (grown : Grown) (done : Done) (text : List ℕ) → grown.limit ≡ length (mark_points grown.task.scene)
    → IsSettled (state_of_grown grown) → done.run ≡ Some grown
    → done.status ≡ status_of_report (is_some (best_node (goals_of grown.task.scene) grown.limit (state_of_grown grown)))
    → report grown.task.scene grown.limit (state_of_grown grown) text → ReportsGrown report grown.task.scene grown done text
ReportsGrown-answer report grown done text all_marks settled given status written = record {
  given = given;
  of_scene = refl;
  all_marks = all_marks;
  closed = (subst (λ (marks : List Point). IsClosed (setup_of scene) marks (length (mark_points scene)) (state_of_grown grown))
      grown.task.of_scene
      (subst (λ (limit : ℕ). IsClosed (setup_of scene) grown.task.marks limit (state_of_grown grown)) all_marks grown.hold_run.closed));
  settled = settled;
  best = status;
  written = written;
}
  where
    scene : Scene
    scene = grown.task.scene

-- a report of a run is one of the scene that the run is of
pub ReportsGrown-of_scene :
    (report : Report) (scene : Scene) (grown : Grown) (done : Done) (text : List ℕ) → grown.task.scene ≡ scene
    → ReportsGrown report grown.task.scene grown done text → ReportsGrown report scene grown done text
ReportsGrown-of_scene report scene grown done text of_scene reported =
    subst (λ (s : Scene). ReportsGrown report s grown done text) of_scene reported

-- and with a textbook run of the scene it is one of the scene
pub ReportsScene-textbook :
    (report : Report) (scene : Scene) (grown : Grown) (done : Done) (text : List ℕ) → grown.task.scene ≡ scene
    → ReportsGrown report grown.task.scene grown done text
    → IsOfTextbookRun (setup_of scene) (mark_points scene) (state_of_grown grown) → HandsOutRunAlone done → ReportsScene report scene done text
ReportsScene-textbook report scene grown done text of_scene reported run alone = record {
  grown = grown;
  reported = ReportsGrown-of_scene report scene grown done text of_scene reported;
  textbook = run;
  alone = alone;
}

-- the two nodes of a bridge are present
pub IsBridge-present :
    (setup : Setup) (one other : TreeState) (bridge : Option (ℕ × ℕ)) → IsBridge setup one other bridge
    → IfSome bridge (λ pair. IsPresent one.points pair.0 × IsPresent other.points pair.1)
IsBridge-present setup one other None h = tt
IsBridge-present setup one other (Some pair) h = (h.member.one_present, h.member.other_present)

-- a report of two runs is one of the scene that the first is of
pub ReportsTwin-of_scene :
    (workers : ℕ) (own scene : Scene) (done : Done) (text : List ℕ) → own ≡ scene → ReportsTwin workers own done text → ReportsTwin workers scene done text
ReportsTwin-of_scene workers own scene done text of_scene reported = subst (λ (s : Scene). ReportsTwin workers s done text) of_scene reported
