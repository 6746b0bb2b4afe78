-- A text is cut at one line `report`, or has none.
use Rattle.planner.proofs.Words.{◌≡◌, ℕ, ◌==◌, not, true, ◌⊎◌, inl, inr, List, [], ◌∷◌, ◌++◌, drop, get_or, refl, sym, ap, subst, ◌∙◌, append_assoc, All}
use Rattle.planner.proofs.Words.{and_parts, false≢true, All-head, All-tail, text_of, HasNoReportLine, IsCutAtReport, IsOtherLine, has_no_feed, report_line}

-- ---- the first line
no_feed_in : (line after : List ℕ) → has_no_feed (line ++ 10 ∷ after) ≡ true → ⊥
no_feed_in [] after h = false≢true (and_parts (not (10 == 10)) (has_no_feed after) h).0
no_feed_in (b ∷ line) after h = no_feed_in line after (and_parts (not (b == 10)) (has_no_feed (line ++ 10 ∷ after)) h).1

not_feed : (b : ℕ) (line : List ℕ) → has_no_feed (b ∷ line) ≡ true → b ≡ 10 → ⊥
not_feed b line h is = false≢true (subst (λ n. not (n == 10) ≡ true) is (and_parts (not (b == 10)) (has_no_feed line) h).0)

same_first : (one other x y : List ℕ) → has_no_feed one ≡ true → has_no_feed other ≡ true → one ++ 10 ∷ x ≡ other ++ 10 ∷ y → (one ≡ other) × (x ≡ y)
same_first [] [] x y g h same = (refl, ap (drop 1) same)
same_first [] (b ∷ other) x y g h same = absurd (not_feed b other h (sym (ap (λ l. get_or l 0 0) same)))
same_first (a ∷ one) [] x y g h same = absurd (not_feed a one g (ap (λ l. get_or l 0 0) same))
same_first (a ∷ one) (b ∷ other) x y g h same =
    let head : a ≡ b = ap (λ l. get_or l 0 0) same in
    let rest = same_first one other x y (and_parts (not (a == 10)) (has_no_feed one) g).1 (and_parts (not (b == 10)) (has_no_feed other) h).1
    (ap (drop 1) same) in
    (λ i. head i ∷ rest.0 i, rest.1)

-- ---- where lines that are not `report` end
-- the line `report` comes, or no line feed is left
abbrev IsEnd : List ℕ → Type 0
IsEnd rest = ((after : List ℕ) × (rest ≡ report_line ++ 10 ∷ after)) ⊎ (has_no_feed rest ≡ true)

not_line : (rest line after : List ℕ) → IsEnd rest → IsOtherLine line → rest ≡ line ++ 10 ∷ after → ⊥
not_line rest line after (inl here) other is =
    other.other (sym (same_first report_line line here.0 after refl other.whole (sym here.1 ∙ is)).0)
not_line rest line after (inr none) other is = no_feed_in line after (subst (λ r. has_no_feed r ≡ true) is none)

same_walk : (one other : List (List ℕ)) (p q : List ℕ) → All IsOtherLine one → All IsOtherLine other → IsEnd p → IsEnd q
    → text_of one ++ p ≡ text_of other ++ q → (text_of one ≡ text_of other) × (p ≡ q)
same_walk [] [] p q g h e f same = (refl, same)
same_walk [] (m ∷ other) p q g h e f same =
    absurd (not_line p m (text_of other ++ q) e (All-head IsOtherLine m other h) (same ∙ append_assoc m (10 ∷ text_of other) q))
same_walk (l ∷ one) [] p q g h e f same =
    absurd (not_line q l (text_of one ++ p) f (All-head IsOtherLine l one g) (sym same ∙ append_assoc l (10 ∷ text_of one) p))
same_walk (l ∷ one) (m ∷ other) p q g h e f same =
    let first = same_first l m (text_of one ++ p) (text_of other ++ q) (All-head IsOtherLine l one g).whole (All-head IsOtherLine m other h).whole
    (sym (append_assoc l (10 ∷ text_of one) p) ∙ same ∙ append_assoc m (10 ∷ text_of other) q) in
    let rest = same_walk one other p q (All-tail IsOtherLine l one g) (All-tail IsOtherLine m other h) e f first.1 in
    (λ i. first.0 i ++ 10 ∷ rest.0 i, rest.1)

-- ---- one cut
-- what stands after the scene: the line `report` and the report, or that line alone, without its line feed
record BeginsWithReport (text front : List ℕ) : Type 0 where
  rest : List ℕ
  split : text ≡ front ++ rest
  line : ((after : List ℕ) × (rest ≡ report_line ++ 10 ∷ after)) ⊎ (rest ≡ report_line)

begins : (text front report : List ℕ) → IsCutAtReport text front report → BeginsWithReport text front
begins text front report cut = by cut.cut
  where
    by : (text ≡ front ++ (report_line ++ 10 ∷ report)) ⊎ ((report ≡ []) × (text ≡ front ++ report_line)) → BeginsWithReport text front
    by (inl fed) = record { rest = report_line ++ 10 ∷ report; split = fed; line = inl (report, refl) }
    by (inr last) = record { rest = report_line; split = last.1; line = inr refl }

is_end : (rest : List ℕ) → ((after : List ℕ) × (rest ≡ report_line ++ 10 ∷ after)) ⊎ (rest ≡ report_line) → IsEnd rest
is_end rest (inl fed) = inl fed
is_end rest (inr last) = inr (subst (λ r. has_no_feed r ≡ true) (sym last) refl)

-- the text of the scene is one
pub IsCutAtReport-one_front : (text front report other_front other : List ℕ) → IsCutAtReport text front report
    → IsCutAtReport text other_front other → front ≡ other_front
IsCutAtReport-one_front text front report other_front other cut again =
    let p = begins text front report cut in
    let q = begins text other_front other again in
    let same = same_walk cut.lines again.lines p.rest q.rest cut.others again.others (is_end p.rest p.line) (is_end q.rest q.line)
    (ap (λ t. t ++ p.rest) (sym cut.whole) ∙ sym p.split ∙ q.split ∙ ap (λ t. t ++ q.rest) again.whole) in
    cut.whole ∙ same.0 ∙ sym again.whole

-- and there is none in a text without such a line
pub IsCutAtReport-has_line : (text front report : List ℕ) → IsCutAtReport text front report → HasNoReportLine text → ⊥
IsCutAtReport-has_line text front report cut none =
    let p = begins text front report cut in
    let same = same_walk cut.lines none.lines p.rest none.last cut.others none.others (is_end p.rest p.line) (inr none.end.whole)
    (ap (λ t. t ++ p.rest) (sym cut.whole) ∙ sym p.split ∙ none.split) in
    by p.rest p.line same.1
  where
    by : (rest : List ℕ) → ((after : List ℕ) × (rest ≡ report_line ++ 10 ∷ after)) ⊎ (rest ≡ report_line) → rest ≡ none.last → ⊥
    by rest (inl fed) same = no_feed_in report_line fed.0 (subst (λ r. has_no_feed r ≡ true) (sym same ∙ fed.1) none.end.whole)
    by rest (inr last) same = none.end.other (sym same ∙ last)
