-- The text of a scene and the bytes of a report in one text, with a line `report` between them.
use Rattle.std.specs.Prelude.{◌≡◌, ◌≢◌, ◌⊎◌, ◌==◌, not, ℕ, Bool, true, All, List, [], ◌∷◌, ◌++◌, codes}
use Rattle.report_judge.specs.Terms.{CostedPath, Option, SheetRead, list_all, option_map, text_of}
use Rattle.report_judge.specs.Texts.ReportSheets.{PricedPath, Sheet}

-- the line between them
abbrev pub report_line : List ℕ
report_line = codes "report"

-- no byte is a line feed
abbrev pub has_no_feed : List ℕ → Bool
has_no_feed bytes = list_all (λ b. not (b == 10)) bytes

-- the bytes are a line, without its line feed, that is not the one between a scene and a report
pub record IsOtherLine (line : List ℕ) : Type 0 where
  pub whole : has_no_feed line ≡ true
  pub other : line ≢ report_line

-- Before a line `report` of the text, none of whose lines is the like, stands the text of a scene, and after its line feed a report. If
-- the line feed is missing, the report has no bytes.
pub record IsCutAtReport (text scene report : List ℕ) : Type 0 where
  pub lines : List (List ℕ)
  pub whole : scene ≡ text_of lines
  pub others : All IsOtherLine lines
  pub cut : (text ≡ scene ++ (report_line ++ 10 ∷ report)) ⊎ ((report ≡ []) × (text ≡ scene ++ report_line))

-- No line of the text is `report`, nor what stands after the last line feed.
pub record HasNoReportLine (text : List ℕ) : Type 0 where
  pub lines : List (List ℕ)
  pub last : List ℕ
  pub split : text ≡ text_of lines ++ last
  pub others : All IsOtherLine lines
  pub end : IsOtherLine last

-- ---- What is read of the bytes of a report: a sheet, or the first line that breaks the form.
-- the path that was read, with its cost
abbrev pub priced_path : Option CostedPath → Option PricedPath
priced_path path = option_map (λ (p : CostedPath). record { points = p.points.items; cost = p.cost }) path

-- what the lists that were read say
abbrev pub sheet_read : SheetRead → Sheet
sheet_read read = record { path = priced_path read.path; tally = read.tally; knots = read.knots.items; records = read.records.items }
