-- Bytes have one verdict at most.
use Rattle.report_judge.proofs.Words.{◌≡◌, ℕ, suc, ◌<◌, ◌^◌, List, [], ◌∷◌, ◌++◌, length, Some, arith, refl, sym, ap, ◌∙◌, subst, inl, inr, append_assoc}
use Rattle.report_judge.proofs.Words.{append-nil, length-append, ◌⊎◌, slice_get, join_with_byte, cases_order, take-append_seam, Task, length-marks}
use Rattle.report_judge.proofs.Words.{MayStandNext, AreBegun, AreAll, BreaksFormFirst, ReportLine, Extent, extent_of, line_words, line_text, lines_text}
use Rattle.report_judge.proofs.Words.{FitsLine, Sheet, SpellsSheet, lines_of_sheet, KeepsLawAt, IsLawful, BreaksLawFirst, IsBroken}
use Rattle.report_judge.proofs.Texts.ListPlaces.{slice_get-seam}
use Rattle.report_judge.proofs.Texts.LineWords.{same_first_lines}
use Rattle.report_judge.proofs.Texts.SheetForms.{AreBegun-sheet, AreAll-sheet}
use Rattle.report_judge.proofs.Texts.SameSheets.{same_sheets}

-- ---- two beginnings of one text

-- each line has its numbers in their ranges
abbrev AllFit : Extent → List ReportLine → Type 0
AllFit extent lines = (i : ℕ) (own : ReportLine) → slice_get lines i ≡ Some own → FitsLine extent own

-- no line is empty
line_not_empty : (said : ReportLine) (x : List ℕ) → [] ≡ line_text said ++ x → ⊥
line_not_empty said x h =
    omega (
      arith,
      ap length h,
      length-append (line_text said) x,
      length-append (join_with_byte 32 (line_words said)) (10 ∷ []),
    )

-- these lines go on as the others do, and what follows goes on with it
record GoesOn (lines others : List ReportLine) (x y : List ℕ) : Type 0 where
  more : List ReportLine
  lines_are : others ≡ lines ++ more
  rest_is : x ≡ lines_text more ++ y

GoesOn-next : (own : ReportLine) (lines others : List ReportLine) (x y : List ℕ) → GoesOn lines others x y → GoesOn (own ∷ lines) (own ∷ others) x y
GoesOn-next own lines others x y h = record { more = h.more; lines_are = ap (λ those. own ∷ those) h.lines_are; rest_is = h.rest_is }

-- of two beginnings of a text one goes on to the other
two_beginnings :
    (extent : Extent) → extent.marks < 2 ^ 64 → (lines others : List ReportLine) (x y : List ℕ) → AllFit extent lines → AllFit extent others
    → lines_text lines ++ x ≡ lines_text others ++ y → GoesOn lines others x y ⊎ GoesOn others lines y x
two_beginnings extent few [] others x y fits also h = inl (record { more = others; lines_are = refl; rest_is = h })
two_beginnings extent few (own ∷ lines) [] x y fits also h = inr (record { more = own ∷ lines; lines_are = refl; rest_is = sym h })
two_beginnings extent few (own ∷ lines) (other ∷ others) x y fits also h =
    let text : line_text own ++ (lines_text lines ++ x) ≡ line_text other ++ (lines_text others ++ y) =
    sym (append_assoc (line_text own) (lines_text lines) x) ∙ h ∙ append_assoc (line_text other) (lines_text others) y in
    let first = same_first_lines extent few own other (lines_text lines ++ x) (lines_text others ++ y) (fits 0 own refl) (also 0 other refl) text in
    elim (two_beginnings extent few lines others x y (λ i. fits (suc i)) (λ i. also (suc i)) first.1) [
      | inl on ↦ inl (subst (λ said. GoesOn (own ∷ lines) (said ∷ others) x y) first.0 (GoesOn-next own lines others x y on))
      | inr on ↦ inr (subst (λ said. GoesOn (said ∷ others) (own ∷ lines) y x) first.0 (GoesOn-next own others lines y x on))
    ]

AllFit-begun : (extent : Extent) (lines : List ReportLine) → AreBegun extent lines → AllFit extent lines
AllFit-begun extent lines begun = λ i own is. (begun i own is).1

-- a line that follows some lines, all of which stand where they may, may stand next after these
may_stand : (extent : Extent) (lines : List ReportLine) (next : ReportLine) (more : List ReportLine) → AreBegun extent (lines ++ next ∷ more)
    → MayStandNext lines next × FitsLine extent next
may_stand extent lines next more begun =
    let found = begun (length lines) next (slice_get-seam lines next more) in
    (subst (λ before. MayStandNext before next) (take-append_seam lines (next ∷ more)) found.0, found.1)

module _ (extent : Extent) (few : extent.marks < 2 ^ 64) (report : List ℕ) where
  -- where the form breaks no line goes on
  no_more : (line : ℕ) (broken : BreaksFormFirst extent report line) (others : List ReportLine) (y : List ℕ) → AreBegun extent others
      → (on : GoesOn broken.before others broken.rest y) → on.more ≡ []
  no_more line broken others y begun on = by_more on.more on.lines_are on.rest_is
    where
      by_more : (more : List ReportLine) → others ≡ broken.before ++ more → broken.rest ≡ lines_text more ++ y → more ≡ []
      by_more [] same rest = refl
      by_more (next ∷ more) same rest =
          let stands = may_stand extent broken.before next more (subst (AreBegun extent) same begun) in
          absurd (broken.no_next next (lines_text more ++ y) stands.0 stands.1 (rest ∙ append_assoc (line_text next) (lines_text more) y))

  -- bytes in form break it nowhere
  pub in_form : (line : ℕ) → BreaksFormFirst extent report line → (sheet : Sheet) → SpellsSheet extent report sheet → ⊥
  in_form line broken sheet spelled =
      let all : List ReportLine = lines_of_sheet sheet in
      let begun = AreBegun-sheet extent sheet spelled.form in
      let text : lines_text broken.before ++ broken.rest ≡ lines_text all ++ [] = sym broken.text ∙ spelled.text ∙ sym (append-nil (lines_text all)) in
      elim (two_beginnings extent few broken.before all broken.rest [] (AllFit-begun extent broken.before broken.begun) (AllFit-begun extent all begun) text) [
        | inl on ↦ whole all on (no_more line broken all [] begun on) (AreAll-sheet extent sheet spelled.form)
        | inr on ↦ ends all on.more on.lines_are on.rest_is (AreAll-sheet extent sheet spelled.form)
      ]
    where
      whole : (all : List ReportLine) (on : GoesOn broken.before all broken.rest []) → on.more ≡ [] → AreAll extent all → ⊥
      whole all on none full =
          let same : all ≡ broken.before = on.lines_are ∙ ap (λ more. broken.before ++ more) none ∙ append-nil broken.before in
          let rest : broken.rest ≡ [] = on.rest_is ∙ ap (λ more. lines_text more ++ []) none in
          broken.not_all (subst (AreAll extent) same full, rest)

      ends : (all more : List ReportLine) → broken.before ≡ all ++ more → [] ≡ lines_text more ++ broken.rest → AreAll extent all → ⊥
      ends all [] same rest full = broken.not_all (subst (AreAll extent) (sym (same ∙ append-nil all)) full, sym rest)
      ends all (next ∷ more) same rest full =
          line_not_empty next (lines_text more ++ broken.rest) (rest ∙ append_assoc (line_text next) (lines_text more) broken.rest)

  -- the form breaks at one line first
  pub same_form_line : (line other : ℕ) → BreaksFormFirst extent report line → BreaksFormFirst extent report other → line ≡ other
  same_form_line line other one two =
      let text : lines_text one.before ++ one.rest ≡ lines_text two.before ++ two.rest = sym one.text ∙ two.text in
      elim (two_beginnings extent few one.before two.before one.rest two.rest
      (AllFit-begun extent one.before one.begun) (AllFit-begun extent two.before two.begun) text) [
        | inl on ↦ (
            let same : two.before ≡ one.before ++ [] = on.lines_are ∙ ap (λ more. one.before ++ more) (no_more line one two.before two.rest two.begun on) in
            one.number ∙ ap (λ those. suc (length those)) (sym (same ∙ append-nil one.before)) ∙ sym two.number)
        | inr on ↦ (
            let same : one.before ≡ two.before ++ [] = on.lines_are ∙ ap (λ more. two.before ++ more) (no_more other two one.before one.rest one.begun on) in
            one.number ∙ ap (λ those. suc (length those)) (same ∙ append-nil two.before) ∙ sym two.number)
      ]

  -- the lines of bytes in form are the same
  pub same_lines : (sheet told : Sheet) → SpellsSheet extent report sheet → SpellsSheet extent report told → lines_of_sheet sheet ≡ lines_of_sheet told
  same_lines sheet told one two =
      let lines : List ReportLine = lines_of_sheet sheet in
      let others : List ReportLine = lines_of_sheet told in
      let text : lines_text lines ++ [] ≡ lines_text others ++ [] = ap (λ bytes. bytes ++ []) (sym one.text ∙ two.text) in
      elim (two_beginnings extent few lines others [] []
      (AllFit-begun extent lines (AreBegun-sheet extent sheet one.form)) (AllFit-begun extent others (AreBegun-sheet extent told two.form)) text) [
        | inl on ↦ sym (ended lines others on.more on.lines_are on.rest_is)
        | inr on ↦ ended others lines on.more on.lines_are on.rest_is
      ]
    where
      ended : (first second more : List ReportLine) → second ≡ first ++ more → [] ≡ lines_text more ++ [] → second ≡ first
      ended first second [] same rest = same ∙ append-nil first
      ended first second (next ∷ more) same rest =
          absurd (line_not_empty next (lines_text more ++ []) (rest ∙ append_assoc (line_text next) (lines_text more) []))

-- ---- verdicts

few_marks : (task : Task) → length task.marks < 2 ^ 64
few_marks task = omega (arith, length-marks task)

module _ (task : Task) (report : List ℕ) where
  same_sheet : (sheet told : Sheet) → SpellsSheet (extent_of task) report sheet → SpellsSheet (extent_of task) report told → sheet ≡ told
  same_sheet sheet told one two =
      same_sheets (extent_of task) sheet told one.form two.form (same_lines (extent_of task) (few_marks task) report sheet told one two)

  -- Lawful bytes are not broken.
  pub not_both : (law line : ℕ) → IsLawful task report → IsBroken task report law line → ⊥
  not_both law line lawful broken =
      elim broken [
        | inl form ↦ in_form (extent_of task) (few_marks task) report line form.1 lawful.sheet lawful.spelled
        | inr first ↦
            first.broken (subst (λ sheet. KeepsLawAt task sheet law line) (same_sheet lawful.sheet first.sheet lawful.spelled first.spelled)
            (lawful.kept law line))
      ]

  module _ (law line other_law other_line : ℕ) (one : BreaksLawFirst task report law line) (two : BreaksLawFirst task report other_law other_line) where
    same : one.sheet ≡ two.sheet
    same = same_sheet one.sheet two.sheet one.spelled two.spelled

    not_lesser : law < other_law → ⊥
    not_lesser low = one.broken (subst (λ sheet. KeepsLawAt task sheet law line) (sym same) (two.lesser law low line))

    not_before : law ≡ other_law → line < other_line → ⊥
    not_before e low =
        one.broken (subst (λ sheet. KeepsLawAt task sheet law line) (sym same) (subst (λ n. KeepsLawAt task two.sheet n line) (sym e) (two.before line low)))

  one_law : (law line other_law other_line : ℕ) → BreaksLawFirst task report law line → BreaksLawFirst task report other_law other_line → law ≡ other_law
  one_law law line other_law other_line one two =
      elim (cases_order law other_law) [
        | inl e ↦ e
        | inr (inl low) ↦ absurd (not_lesser law line other_law other_line one two low)
        | inr (inr high) ↦ absurd (not_lesser other_law other_line law line two one high)
      ]

  one_line : (law line other_law other_line : ℕ) → BreaksLawFirst task report law line → BreaksLawFirst task report other_law other_line → line ≡ other_line
  one_line law line other_law other_line one two =
      let e = one_law law line other_law other_line one two in
      elim (cases_order line other_line) [
        | inl same ↦ same
        | inr (inl low) ↦ absurd (not_before law line other_law other_line one two e low)
        | inr (inr high) ↦ absurd (not_before other_law other_line law line two one (sym e) high)
      ]

  -- Bytes break one law at one line.
  pub one_break : (law line other_law other_line : ℕ) → IsBroken task report law line → IsBroken task report other_law other_line
      → (law ≡ other_law) × (line ≡ other_line)
  one_break law line other_law other_line one two =
      elim one [
        | inl form ↦ elim two [
          | inl also ↦
              (form.0 ∙ sym also.0, same_form_line (extent_of task) (few_marks task) report line other_line form.1 also.1)
          | inr first ↦ absurd (in_form (extent_of task) (few_marks task) report line form.1 first.sheet first.spelled)
        ]
        | inr first ↦ elim two [
          | inl form ↦ absurd (in_form (extent_of task) (few_marks task) report other_line form.1 first.sheet first.spelled)
          | inr also ↦ (one_law law line other_law other_line first also, one_line law line other_law other_line first also)
        ]
      ]
