-- How far a text is walked over, line by line, to a line `report`.
use Rattle.report_judge.proofs.Words.{◌≡◌, ℕ, suc, ◌+◌, ◌-◌, ◌<◌, ◌==◌, not, Bool, true, false, cond, List, [], ◌∷◌, ◌++◌, length, take, get_or, arith, refl}
use Rattle.report_judge.proofs.Words.{sym, ap, ◌∙◌, append_assoc, length-append, inl, inr, All, position_or_len, eqb-true, not-false, prefix_len_stops}
use Rattle.report_judge.proofs.Words.{All-push, take-append_seam, text_of, IsCutAtReport, IsOtherLine, has_no_feed, report_line}

-- ---- the first line

-- no line feed stands before the first one
pub no_feed_before : (text : List ℕ) → has_no_feed (take (position_or_len (λ b. b == 10) text) text) ≡ true
no_feed_before [] = refl
no_feed_before (b ∷ text) = by_byte (no_feed_before text) (b == 10) refl
  where
    by_byte : has_no_feed (take (position_or_len (λ c. c == 10) text) text) ≡ true → (feed : Bool) → (b == 10) ≡ feed
        → has_no_feed (take (cond {A = ℕ} (not feed) (1 + position_or_len (λ c. c == 10) text) 0) (b ∷ text)) ≡ true
    by_byte before true e = refl
    by_byte before false e =
        let one : 1 + position_or_len (λ c. c == 10) text ≡ suc (position_or_len (λ c. c == 10) text) = omega arith in
        ap (λ n. has_no_feed (take n (b ∷ text))) one ∙ (rw e before)

-- and there is one, if not all bytes stand before it
pub feed_after : (text : List ℕ) → position_or_len (λ b. b == 10) text < length text → get_or text (position_or_len (λ b. b == 10) text) 0 ≡ 10
feed_after text low =
    let stop = prefix_len_stops (λ b. not (b == 10)) text 0 low in
    let place = position_or_len (λ b. b == 10) text in
    eqb-true (get_or text place 0) 10 (not-false (get_or text place 0 == 10) stop)

-- ---- the lines so far

-- what stands before the rest of a text is lines that are not `report`
pub record IsWalked (text rest : List ℕ) : Type 0 where
  pub lines : List (List ℕ)
  pub split : text ≡ text_of lines ++ rest
  pub others : All IsOtherLine lines

text_of-push : (lines : List (List ℕ)) (line : List ℕ) → text_of (lines ++ line ∷ []) ≡ text_of lines ++ (line ++ 10 ∷ [])
text_of-push [] line = refl
text_of-push (first ∷ lines) line =
    ap (λ text. first ++ 10 ∷ text) (text_of-push lines line) ∙ sym (append_assoc first (10 ∷ text_of lines) (line ++ 10 ∷ []))

pub IsWalked-more : (text rest line after : List ℕ) → IsWalked text rest → rest ≡ line ++ 10 ∷ after → IsOtherLine line → IsWalked text after
IsWalked-more text rest line after walked split other = record {
  lines = walked.lines ++ line ∷ [];
  split =
      walked.split ∙ ap (λ more. text_of walked.lines ++ more) (split ∙ sym (append_assoc line (10 ∷ []) after))
      ∙ sym (append_assoc (text_of walked.lines) (line ++ 10 ∷ []) after) ∙ ap (λ front. front ++ after) (sym (text_of-push walked.lines line));
  others = All-push IsOtherLine walked.lines line walked.others other;
}

module _ (text rest : List ℕ) (walked : IsWalked text rest) where
  front : take (length text - length rest) text ≡ text_of walked.lines
  front =
      let long : length text - length rest ≡ length (text_of walked.lines) =
      omega (arith, ap length walked.split, length-append (text_of walked.lines) rest) in
      (λ i. take (long i) (walked.split i)) ∙ take-append_seam (text_of walked.lines) rest

  -- the line is there
  pub IsCutAtReport-line : (line after : List ℕ) → rest ≡ line ++ 10 ∷ after → line ≡ report_line
      → IsCutAtReport text (take (length text - length rest) text) after
  IsCutAtReport-line line after split same = record {
    lines = walked.lines;
    whole = front;
    others = walked.others;
    cut = inl
        (walked.split ∙ ap (λ more. text_of walked.lines ++ more) (split ∙ ap (λ l. l ++ 10 ∷ after) same)
        ∙ ap (λ scene. scene ++ (report_line ++ 10 ∷ after)) (sym front));
  }

  -- it is the last one, without its line feed
  pub IsCutAtReport-end : rest ≡ report_line → IsCutAtReport text (take (length text - length rest) text) []
  IsCutAtReport-end same = record {
    lines = walked.lines;
    whole = front;
    others = walked.others;
    cut = inr
        (refl, walked.split ∙ ap (λ more. text_of walked.lines ++ more) same ∙ ap (λ scene. scene ++ report_line) (sym front));
  }
