-- The text of a mark's line as its front and what its outcome has after it; and records that fit, by their outcomes.
use Rattle.report_judge.proofs.Words.{◌≡◌, ℕ, ◌<◌, ◌≤◌, ◌^◌, true, List, [], ◌∷◌, ◌++◌, ap, arith, get_or, refl, ◌∙◌, append_assoc, decimal, codes, MOST_MARKS}
use Rattle.report_judge.proofs.Words.{Outcome, Placed, Same, Blocked, Skipped, Record, Ending, Steered, NewNode, SameNode, NoWay, SkippedBy, ending_as}
use Rattle.report_judge.proofs.Words.{ending_of, line, ending_words, reached_words, last_field, Extent, EndsWithin, FitsEntry, field, line_text, mark_front}
use Rattle.report_judge.proofs.Words.{MarkLine}
use Rattle.report_judge.proofs.Texts.LineParts.{same_field}

front : (k w t : ℕ) (first : List ℕ) (more : List (List ℕ)) (rest : List ℕ)
    → line ((codes "mark" ∷ decimal k ∷ codes "worker" ∷ decimal w ∷ codes "turn" ∷ decimal t ∷ []) ++ first ∷ more) ++ rest
    ≡ mark_front k w t (line (first ∷ more) ++ rest)
front k w t first more rest = simp append_assoc

front_of : (k w t : ℕ) (rest : List ℕ) (ending : Ending)
    → line ((codes "mark" ∷ decimal k ∷ codes "worker" ∷ decimal w ∷ codes "turn" ∷ decimal t ∷ []) ++ ending_words ending) ++ rest
    ≡ mark_front k w t (line (ending_words ending) ++ rest)
front_of k w t rest (Steered m reached) = front k w t (codes "nearest") (decimal m ∷ reached_words reached) rest
front_of k w t rest (SkippedBy g) = front k w t (codes "skipped") (codes "by" ∷ decimal g ∷ []) rest

pub parts-mark : (k : ℕ) (entry : Record) (rest : List ℕ) → line_text (MarkLine k entry) ++ rest
    ≡ mark_front k entry.worker entry.turn (line (ending_words (ending_of entry)) ++ rest)
parts-mark k entry rest = front_of k entry.worker entry.turn rest (ending_of entry)

-- a line that goes on with the nearest node of a mark
pub nearest_first : (k : ℕ) (first : List ℕ) (more : List (List ℕ)) (rest : List ℕ)
    → line (codes "nearest" ∷ decimal k ∷ first ∷ more) ++ rest ≡ field (codes "nearest ") k 32 (line (first ∷ more) ++ rest)
nearest_first k first more rest = simp append_assoc

-- what is read of a line after the nearest node of its mark
pub record HasNoEnding (marks : ℕ) (text : List ℕ) : Type 0 where
  pub placed : (class parent cost : ℕ) (rest : List ℕ) → class < 2 ^ 18 → parent ≤ marks → cost < 2 ^ 44
      → text ≡ line (codes "placed" ∷ codes "class" ∷ decimal class ∷ codes "first" ∷ decimal parent ∷ decimal cost ∷ []) ++ rest → ⊥
  pub same : (node : ℕ) (rest : List ℕ) → node ≤ marks → text ≡ line (codes "same" ∷ decimal node ∷ []) ++ rest → ⊥
  pub blocked : (rest : List ℕ) → text ≡ line (codes "blocked" ∷ []) ++ rest → ⊥

-- a text that has none of these after a nearest node has no line of any record
pub no_ending : (extent : Extent) (nearest : ℕ) (text : List ℕ) → nearest ≤ extent.marks → extent.marks ≤ MOST_MARKS → HasNoEnding extent.marks text
    → (entry : Record) (rest : List ℕ) → FitsEntry extent entry
    → field (codes "nearest ") nearest 32 text ≡ line (ending_words (ending_of entry)) ++ rest → ⊥
no_ending extent nearest text low few none entry rest fits e = by_outcome entry.outcome fits.words.word.last fits.ended e
  where
    whole : List ℕ
    whole = field (codes "nearest ") nearest 32 text

    ending : (first : List ℕ) (more : List (List ℕ)) → whole ≡ line (codes "nearest" ∷ decimal entry.nearest ∷ first ∷ more) ++ rest
        → text ≡ line (first ∷ more) ++ rest
    ending first more h =
        (same_field whole (codes "nearest ") nearest entry.nearest 32 text (line (first ∷ more) ++ rest) (omega (arith, low, few))
        (omega (arith, fits.words.word.nearest)) (omega arith) refl (h ∙ nearest_first entry.nearest first more rest)).1

    by_outcome : (o : Outcome) → last_field o entry.class < 2 ^ 18 → EndsWithin extent (ending_as entry o)
        → whole ≡ line (ending_words (ending_as entry o)) ++ rest → ⊥
    by_outcome Placed last ended h =
        none.placed entry.class entry.first_parent entry.first_cost rest last ended.1 fits.words.cost
        (ending (codes "placed") (codes "class" ∷ decimal entry.class ∷ codes "first" ∷ decimal entry.first_parent ∷ decimal entry.first_cost ∷ []) h)
    by_outcome (Same j) last ended h = none.same j rest ended.1 (ending (codes "same") (decimal j ∷ []) h)
    by_outcome Blocked last ended h = none.blocked rest (ending (codes "blocked") [] h)
    by_outcome Skipped last ended h = let letters : 110 ≡ 115 = ap (λ (bytes : List ℕ). get_or bytes 0 0) h in absurd (omega (arith, letters))

-- a text that has neither a nearest node nor a mark that was skipped has none
pub no_outcome : (extent : Extent) (text : List ℕ)
    → ((nearest : ℕ) (rest : List ℕ) → nearest ≤ extent.marks → text ≡ field (codes "nearest ") nearest 32 rest → ⊥)
    → (extent.informed ≡ true → (goal : ℕ) (rest : List ℕ) → goal ≤ extent.marks
    → text ≡ line (codes "skipped" ∷ codes "by" ∷ decimal goal ∷ []) ++ rest → ⊥)
    → (entry : Record) (rest : List ℕ) → FitsEntry extent entry → text ≡ line (ending_words (ending_of entry)) ++ rest → ⊥
no_outcome extent text none skipped entry rest fits e = by_ending (ending_of entry) fits.ended e
  where
    steered : (m : ℕ) (first : List ℕ) (more : List (List ℕ)) → m ≤ extent.marks → text ≡ line (codes "nearest" ∷ decimal m ∷ first ∷ more) ++ rest → ⊥
    steered m first more low h = none m (line (first ∷ more) ++ rest) low (h ∙ nearest_first m first more rest)

    by_ending : (ending : Ending) → EndsWithin extent ending → text ≡ line (ending_words ending) ++ rest → ⊥
    by_ending (Steered m (NewNode new)) ended h =
        steered m (codes "placed") (codes "class" ∷ decimal new.class ∷ codes "first" ∷ decimal new.parent ∷ decimal new.cost ∷ []) ended.0 h
    by_ending (Steered m (SameNode j)) ended h = steered m (codes "same") (decimal j ∷ []) ended.0 h
    by_ending (Steered m NoWay) ended h = steered m (codes "blocked") [] ended.0 h
    by_ending (SkippedBy g) ended h = skipped ended.1 g rest ended.0 h
