-- What is answered to a call, by the refusal or the run that it is.
use Rattle.std.proofs.Common.{◌≡◌, ℕ, List, Result, Ok, Err, IsErrAnd, sym, subst}
use Rattle.grown_runs.proofs.Common.{Record, Scene, IsOfTextbookRun, mark_points, setup_of, state_of_grown}
use Rattle.std.specs.Prelude.{Some, ◌<◌}
use Rattle.grown_runs.specs.declared.grown.Grown.{Grown}
use Rattle.planner.specs.Conclusions.{HandsOutRunAlone, Report, ReportsGrown, ReportsPlan}
use Rattle.planner.specs.declared.answers.Answer.{Answer}
use Rattle.planner.specs.declared.commands.Command.{Command}
use Rattle.planner.specs.declared.refusals.Refusal.{Refusal}
use Rattle.planner.specs.declared.top_call.Done.{Done}
use Rattle.planner.proofs.Successes.{ReportsGrown-of_scene}
use Rattle.report_judge.specs.declared.verdicts.Verdict.{Verdict}
use Rattle.plan_c.specs.Calls.{AnswersText, JudgesReport, RefusesReport, RefusesText}

-- a text is refused
pub AnswersText-refused :
    (command : Command) (text : List ℕ) (answer : Result Answer Refusal) (refusal : Refusal) → IsErrAnd answer (λ e. e ≡ refusal)
    → RefusesText text refusal → AnswersText command text answer
AnswersText-refused command text (Ok answer) refusal only cause = absurd only
AnswersText-refused command text (Err e) refusal only cause = record { success = tt; refusal = subst (RefusesText text) (sym only) cause }

-- a report is not judged
pub JudgesReport-refused :
    (text report : List ℕ) (answer : Result Verdict Refusal) (refusal : Refusal) → IsErrAnd answer (λ e. e ≡ refusal)
    → RefusesReport text report refusal → JudgesReport text report answer
JudgesReport-refused text report (Ok verdict) refusal only cause = absurd only
JudgesReport-refused text report (Err e) refusal only cause = record { verdict = tt; refusal = subst (RefusesReport text report) (sym only) cause }

-- a textbook run by one worker is reported
pub ReportsPlan-alone :
    (report : Report) (scene : Scene) (grown : Grown) (done : Done) (text : List ℕ) → grown.task.scene ≡ scene
    → ((k : ℕ) (entry : Record) → (state_of_grown grown).record_of k ≡ Some entry → entry.worker < 1)
    → IsOfTextbookRun (setup_of scene) (mark_points scene) (state_of_grown grown) → ReportsGrown report grown.task.scene grown done text
    → HandsOutRunAlone done → ReportsPlan 1 report scene done text
ReportsPlan-alone report scene grown done text of_scene by_one textbook reported alone = record {
  grown = grown;
  reported = ReportsGrown-of_scene report scene grown done text of_scene reported;
  by_workers = by_one;
  textbook = λ one. textbook;
  alone = alone;
}
