-- What is answered to `check`, from the bytes that were read.
use Rattle.planner.proofs.Words.{◌≡◌, ℕ, ◌≤◌, ◌+◌, ◌++◌, List, [], ◌∷◌, length, length-append, Result, IsErrAnd, Some, refl, ap, inl, inr, arith, ◌⊎◌}
use Rattle.planner.proofs.Words.{MOST_TEXT_BYTES, SourceState, HasNoReportLine, IsCutAtReport, report_line, ReadsWithin, IsSceneRefusal, SceneRefusal}
use Rattle.planner.proofs.Words.{RefusesCheck, RefusesSceneText, RefusesWithoutReport, Answers, IsCaused, IsReadWhole, refusal_of_scene, Answer, Refusal}
use Rattle.scene_text.specs.declared.refusals.SceneRefusal.TheVariants as reading
use Rattle.planner.proofs.GivenAnswers.{Answers-refused}
use Rattle.planner.specs.declared.commands.Command.TheVariants as commands
use Rattle.planner.specs.declared.refusals.Refusal.TheVariants as refusals

-- ---- the parts of a text
-- are no longer than it
pub IsCutAtReport-short : (text front report : List ℕ) → IsCutAtReport text front report → length front + length report ≤ length text
IsCutAtReport-short text front report cut = by cut.cut
  where
    by : (text ≡ front ++ (report_line ++ 10 ∷ report)) ⊎ ((report ≡ []) × (text ≡ front ++ report_line)) → length front + length report ≤ length text
    by (inl fed) = omega
        (arith, ap length fed, length-append front (report_line ++ 10 ∷ report), length-append report_line (10 ∷ report))
    by (inr last) = omega (arith, ap length last.0, ap length last.1, length-append front report_line)

-- ---- refusals
-- the scene before the line is refused
pub RefusesCheck-front : (bytes front report : List ℕ) (refusal : Refusal) → length bytes ≤ MOST_TEXT_BYTES → IsCutAtReport bytes front report
    → RefusesSceneText front refusal → RefusesCheck bytes refusal
RefusesCheck-front bytes front report (refusals.Text number kind) short cut h =
    record { short = short; refused = inl (record { front = front; report = report; cut = cut; refused = h }) }
RefusesCheck-front bytes front report refusals.StartBlocked short cut h = record {
  scenes = h.scene ∷ [];
  spelled = record { short = short; front = front; report = report; cut = cut; spelled = h.spelled };
  blocked = λ clear. h.blocked clear.0;
}
RefusesCheck-front bytes front report refusals.Memory short cut h = tt
RefusesCheck-front bytes front report refusal short cut h = absurd h

-- a scene that cannot be read is the cause of its refusal
pub RefusesSceneText-read : (text : List ℕ) (refusal : SceneRefusal) → IsSceneRefusal text refusal → RefusesSceneText text (refusal_of_scene refusal)
RefusesSceneText-read text (reading.Fault fault) refused = refused
RefusesSceneText-read text reading.Memory refused = tt

-- also where no line is `report`
pub RefusesWithoutReport-read : (bytes : List ℕ) (refusal : SceneRefusal) → HasNoReportLine bytes → IsSceneRefusal bytes refusal
    → RefusesWithoutReport bytes (refusal_of_scene refusal)
RefusesWithoutReport-read bytes (reading.Fault fault) none refused = record { none = none; refused = inl refused }
RefusesWithoutReport-read bytes reading.Memory none refused = tt

-- there is no line
pub RefusesCheck-whole : (bytes : List ℕ) (refusal : Refusal) → length bytes ≤ MOST_TEXT_BYTES → RefusesWithoutReport bytes refusal
    → RefusesCheck bytes refusal
RefusesCheck-whole bytes (refusals.Text number kind) short h = record { short = short; refused = inr h }
RefusesCheck-whole bytes refusals.Memory short h = tt
RefusesCheck-whole bytes refusal short h = absurd h

-- ---- answers
module _ (before now : SourceState) (bytes : List ℕ) (within : ReadsWithin before.bytes_left now.bytes_left) (whole : IsReadWhole before now bytes) where
  caused : (refusal : Refusal) → RefusesCheck bytes refusal → IsCaused (Some commands.Check) before now refusal
  caused (refusals.Text number kind) h = (refl, (bytes, whole, h))
  caused refusals.StartBlocked h = (refl, (bytes, whole, h))
  caused refusals.Memory h = (refl, whole.no_fault)
  caused refusal h = absurd h

  -- once all bytes were read, a refusal by them
  pub Answers-not_checked : (result : Result Answer Refusal) (refusal : Refusal) → IsErrAnd result (λ e. e ≡ refusal) → RefusesCheck bytes refusal
      → Answers (Some commands.Check) before now result
  Answers-not_checked result refusal only h = Answers-refused commands.Check before now refl within result refusal only (caused refusal h)
