-- A text is cut at one line `report` at most.
use Rattle.report_judge.proofs.Words.{◌≡◌, ℕ, ◌==◌, not, true, List, [], ◌∷◌, ◌++◌, refl, sym, ap, ◌∙◌, subst, append_assoc, ◌⊎◌, inl, inr, All, and_parts}
use Rattle.report_judge.proofs.Words.{true≢false, append_cancel_left, All-head, All-tail, list_all-append, text_of, HasNoReportLine, IsCutAtReport, IsOtherLine}
use Rattle.report_judge.proofs.Words.{has_no_feed, report_line}

-- ---- the first line

-- bytes without a line feed have none anywhere
no_feed_within : (line after : List ℕ) → has_no_feed (line ++ 10 ∷ after) ≡ true → ⊥
no_feed_within line after h =
    let parts = and_parts (has_no_feed line) (has_no_feed (10 ∷ after)) (sym (list_all-append (λ b. not (b == 10)) line (10 ∷ after)) ∙ h) in
    true≢false (sym parts.1)

later_bytes : (b : ℕ) (line : List ℕ) → has_no_feed (b ∷ line) ≡ true → has_no_feed line ≡ true
later_bytes b line h = (and_parts (not (b == 10)) (has_no_feed line) h).1

same_first_line : (line other after rest : List ℕ) → has_no_feed line ≡ true → has_no_feed other ≡ true
    → line ++ 10 ∷ after ≡ other ++ 10 ∷ rest → (line ≡ other) × (after ≡ rest)
same_first_line [] [] after rest whole other_whole same = (refl, cc)
same_first_line [] (c ∷ other) after rest whole other_whole same =
    let feed : c ≡ 10 = cc in absurd (no_feed_within [] other (ap (λ b. has_no_feed (b ∷ other)) (sym feed) ∙ other_whole))
same_first_line (b ∷ line) [] after rest whole other_whole same =
    let feed : b ≡ 10 = cc in absurd (no_feed_within [] line (ap (λ c. has_no_feed (c ∷ line)) (sym feed) ∙ whole))
same_first_line (b ∷ line) (c ∷ other) after rest whole other_whole same =
    let first : b ≡ c = cc in
    let more : line ++ 10 ∷ after ≡ other ++ 10 ∷ rest = cc in
    let later = same_first_line line other after rest (later_bytes b line whole) (later_bytes c other other_whole) more in
    (λ i. first i ∷ later.0 i, later.1)

-- ---- the line `report`

-- what stands from the line on
abbrev BeginsReport : List ℕ → List ℕ → Type 0
BeginsReport rest report = (rest ≡ report_line ++ 10 ∷ report) ⊎ ((report ≡ []) × (rest ≡ report_line))

same_after : (rest report other : List ℕ) → BeginsReport rest report → BeginsReport rest other → report ≡ other
same_after rest report other (inl begins) (inl begun) =
    let same : 10 ∷ report ≡ 10 ∷ other = append_cancel_left report_line (10 ∷ report) (10 ∷ other) (sym begins ∙ begun) in cc
same_after rest report other (inl begins) (inr begun) = absurd (no_feed_within report_line report (ap has_no_feed (sym begins ∙ begun.1)))
same_after rest report other (inr begins) (inl begun) = absurd (no_feed_within report_line other (ap has_no_feed (sym begun ∙ begins.1)))
same_after rest report other (inr begins) (inr begun) = begins.0 ∙ sym begun.0

-- no other line is the first one there
not_other : (rest report line after : List ℕ) → BeginsReport rest report → IsOtherLine line → rest ≡ line ++ 10 ∷ after → ⊥
not_other rest report line after (inl begins) other split =
    other.other (sym (same_first_line report_line line report after refl other.whole (sym begins ∙ split)).0)
not_other rest report line after (inr begins) other split = no_feed_within line after (ap has_no_feed (sym split ∙ begins.1))

not_last : (rest report : List ℕ) → BeginsReport rest report → IsOtherLine rest → ⊥
not_last rest report (inl begins) other = no_feed_within report_line report (ap has_no_feed (sym begins) ∙ other.whole)
not_last rest report (inr begins) other = other.other begins.1

-- ---- line by line

from_line : (line : List ℕ) (lines : List (List ℕ)) (rest : List ℕ) → text_of (line ∷ lines) ++ rest ≡ line ++ 10 ∷ (text_of lines ++ rest)
from_line line lines rest = append_assoc line (10 ∷ text_of lines) rest

same_cut : (lines others : List (List ℕ)) (rest more report told : List ℕ) → All IsOtherLine lines → All IsOtherLine others
    → BeginsReport rest report → BeginsReport more told → text_of lines ++ rest ≡ text_of others ++ more
    → (text_of lines ≡ text_of others) × (report ≡ told)
same_cut [] [] rest more report told of_lines of_others begins begun same =
    (refl, same_after rest report told begins (subst (λ bytes. BeginsReport bytes told) (sym same) begun))
same_cut [] (other ∷ others) rest more report told of_lines of_others begins begun same =
    let first = All-head IsOtherLine other others of_others in
    absurd (not_other rest report other (text_of others ++ more) begins first (same ∙ from_line other others more))
same_cut (line ∷ lines) [] rest more report told of_lines of_others begins begun same =
    let first = All-head IsOtherLine line lines of_lines in
    absurd (not_other more told line (text_of lines ++ rest) begun first (sym same ∙ from_line line lines rest))
same_cut (line ∷ lines) (other ∷ others) rest more report told of_lines of_others begins begun same =
    let whole = (All-head IsOtherLine line lines of_lines).whole in
    let other_whole = (All-head IsOtherLine other others of_others).whole in
    let first =
    same_first_line line other (text_of lines ++ rest) (text_of others ++ more) whole other_whole
    (sym (from_line line lines rest) ∙ same ∙ from_line other others more) in
    let later =
    same_cut lines others rest more report told (All-tail IsOtherLine line lines of_lines) (All-tail IsOtherLine other others of_others) begins begun
    first.1 in
    (λ i. first.0 i ++ 10 ∷ later.0 i, later.1)

no_cut : (lines others : List (List ℕ)) (rest last report : List ℕ) → All IsOtherLine lines → All IsOtherLine others
    → BeginsReport rest report → IsOtherLine last → text_of lines ++ rest ≡ text_of others ++ last → ⊥
no_cut [] [] rest last report of_lines of_others begins end same = not_last rest report begins (subst IsOtherLine (sym same) end)
no_cut [] (other ∷ others) rest last report of_lines of_others begins end same =
    let first = All-head IsOtherLine other others of_others in
    not_other rest report other (text_of others ++ last) begins first (same ∙ from_line other others last)
no_cut (line ∷ lines) [] rest last report of_lines of_others begins end same =
    no_feed_within line (text_of lines ++ rest) (ap has_no_feed (sym (from_line line lines rest) ∙ same) ∙ end.whole)
no_cut (line ∷ lines) (other ∷ others) rest last report of_lines of_others begins end same =
    let whole = (All-head IsOtherLine line lines of_lines).whole in
    let other_whole = (All-head IsOtherLine other others of_others).whole in
    let first =
    same_first_line line other (text_of lines ++ rest) (text_of others ++ last) whole other_whole
    (sym (from_line line lines rest) ∙ same ∙ from_line other others last) in
    no_cut lines others rest last report (All-tail IsOtherLine line lines of_lines) (All-tail IsOtherLine other others of_others) begins end first.1

-- ---- the whole text

module _ (text scene report : List ℕ) (cut : IsCutAtReport text scene report) where
  rest_of : (rest : List ℕ) × (text ≡ text_of cut.lines ++ rest) × BeginsReport rest report
  rest_of =
      elim cut.cut [
        | inl fed ↦ (report_line ++ 10 ∷ report, fed ∙ ap (λ front. front ++ (report_line ++ 10 ∷ report)) cut.whole, inl refl)
        | inr ends ↦ (report_line, ends.1 ∙ ap (λ front. front ++ report_line) cut.whole, inr (ends.0, refl))
      ]

  pub not_both : HasNoReportLine text → ⊥
  not_both none = no_cut cut.lines none.lines rest_of.0 none.last report cut.others none.others rest_of.2 none.end (sym rest_of.1 ∙ none.split)

module _ (text scene report front told : List ℕ) (cut : IsCutAtReport text scene report) (other : IsCutAtReport text front told) where
  both : (text_of cut.lines ≡ text_of other.lines) × (report ≡ told)
  both =
      let rest = rest_of text scene report cut in
      let more = rest_of text front told other in
      same_cut cut.lines other.lines rest.0 more.0 report told cut.others other.others rest.2 more.2 (sym rest.1 ∙ more.1)

  pub same_scene : scene ≡ front
  same_scene = cut.whole ∙ both.0 ∙ sym other.whole

  pub same_report : report ≡ told
  same_report = both.1
