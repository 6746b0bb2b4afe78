-- The verdict on the bytes of a report: that they are lawful, or the least law that is broken and the first line that breaks it.
use Rattle.std.specs.Prelude.{◌≡◌, ℕ, ◌<◌, ◌⊎◌, List, length}
use Rattle.report_judge.specs.Terms.{Broken, IsClosed, IsSettled, Lawful, Task, TreeState, Verdict, full_report, setup_of}
use Rattle.report_judge.specs.Texts.ReportForms.{BreaksFormFirst}
use Rattle.report_judge.specs.Texts.ReportLines.{extent_of, lines_text}
use Rattle.report_judge.specs.Texts.ReportSheets.{Sheet, SpellsSheet, lines_of_sheet}
use Rattle.report_judge.specs.Laws.SheetLaws.{KeepsLawAt, KeepsLaw}

-- The bytes are the full report of a settled run of the task that is closed over all of its marks.
pub record IsReportOfRun (task : Task) (report : List ℕ) : Type 0 where
  pub state : TreeState
  pub closed : IsClosed (setup_of task.scene) task.marks (length task.marks) state
  pub settled : IsSettled state
  pub text : report ≡ full_report task.scene (length task.marks) state

-- The bytes have the form of a full report, and each line keeps each law.
pub record IsLawful (task : Task) (report : List ℕ) : Type 0 where
  pub sheet : Sheet
  pub spelled : SpellsSheet (extent_of task) report sheet
  pub kept : (law : ℕ) → KeepsLaw task sheet law

-- The bytes have the form of a full report; each line keeps the lesser laws, and this is the first one that breaks this law.
pub record BreaksLawFirst (task : Task) (report : List ℕ) (law line : ℕ) : Type 0 where
  pub sheet : Sheet
  pub spelled : SpellsSheet (extent_of task) report sheet
  pub lesser : (other : ℕ) → other < law → KeepsLaw task sheet other
  pub before : (i : ℕ) → i < line → KeepsLawAt task sheet law i
  pub broken : ¬ KeepsLawAt task sheet law line

-- The verdict that a law is broken, and a line: the least law that is broken, and the first line that breaks it. Law 1 is the form.
abbrev pub IsBroken : Task → List ℕ → ℕ → ℕ → Type 0
IsBroken task report law line = ((law ≡ 1) × BreaksFormFirst (extent_of task) report line) ⊎ BreaksLawFirst task report law line

-- ---- What a verdict on a report says of its bytes.
-- Lawful bytes are the full report of a settled run that is closed over all marks; of others it names the least law that is broken and the
-- first line that breaks it.
abbrev pub IsVerdict : Task → List ℕ → Verdict → Type 0
IsVerdict task report Lawful = IsReportOfRun task report
IsVerdict task report (Broken line law) = IsBroken task report law line × ¬ IsReportOfRun task report

-- the bytes that a sheet's lines have
abbrev pub bytes_of : Sheet → List ℕ
bytes_of sheet = lines_text (lines_of_sheet sheet)
