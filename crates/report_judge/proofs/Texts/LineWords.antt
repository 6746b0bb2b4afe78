-- What a line says is known by its words, and these by its bytes.
use Rattle.report_judge.proofs.Words.{Bool, List, [], ap, append_assoc, arith, decimal, eqb, false, get_or, length, not, refl, sym, true, ℕ, ◌%◌, ◌&&◌, ◌++◌}
use Rattle.report_judge.proofs.Words.{◌+◌, ◌<◌, ◌^◌, ◌∙◌, ◌∷◌, ◌≡◌, ◌≤◌, None, Option, Some, codes, join_with_byte, list_all, and_parts, true≢false, nat_tests}
use Rattle.report_judge.proofs.Words.{decimal_by_steps, decimal_injective, append_cancel_left, list_all-append, Blocked, Ending, NewNode, NoWay, Outcome}
use Rattle.report_judge.proofs.Words.{Placed, Reached, Record, Same, SameNode, Skipped, SkippedBy, Steered, ending_as, ending_of, ending_words, line, lines_of}
use Rattle.report_judge.proofs.Words.{reached_words, record_of_ending, record_of_ending-again, FitsRecord, is_digit, last_field, pieces_of, Extent, FitsLine}
use Rattle.report_judge.proofs.Words.{FitsSkipped, ReportLine, line_text, line_words, skipped_count, Counts, MarkLine, NoPath, NodeLine, PathOf, PathPoint}
use Rattle.report_judge.proofs.Words.{not-true}
use Rattle.report_judge.proofs.Texts.DecimalWords.{digits-decimal}

-- ---- bytes of words

-- the byte is neither a space nor a line feed
abbrev pub is_inner : ℕ → Bool
is_inner b = not (eqb b 32) && not (eqb b 10)

-- no byte of a word is a space or a line feed
abbrev pub is_uncut : List ℕ → Bool
is_uncut bytes = list_all is_inner bytes

abbrev pub AreUncut : List (List ℕ) → Type 0
AreUncut words = list_all is_uncut words ≡ true

inner-small : (n : ℕ) → n < 10 → is_inner (48 + n) ≡ true
inner-small n h = grind (arith, nat_tests)

uncut-more : (n : ℕ) (digits : List ℕ) → 10 ≤ n → is_uncut digits ≡ true → is_uncut (digits ++ (48 + n % 10) ∷ []) ≡ true
uncut-more n digits h before =
    let last = inner-small (n % 10) (omega arith) in
    list_all-append is_inner digits ((48 + n % 10) ∷ []) ∙ rw (before, last) refl

-- a number in decimal has neither
pub uncut-decimal : (n : ℕ) → n < 2 ^ 64 → is_uncut (decimal n) ≡ true
uncut-decimal n h = decimal_by_steps (λ n bytes. is_uncut bytes ≡ true) (λ n low. rw (inner-small n low) refl) uncut-more n h

-- ---- lines are cut at line feeds, and words at spaces

lines_of-line : (bytes rest : List ℕ) → list_all (λ b. not (eqb b 10)) bytes ≡ true → lines_of (bytes ++ 10 ∷ rest) ≡ bytes ∷ lines_of rest
lines_of-line [] rest h = refl
lines_of-line (b ∷ bytes) rest h =
    let parts = and_parts (not (eqb b 10)) (list_all (λ x. not (eqb x 10)) bytes) h in
    let inner : eqb b 10 ≡ false = not-true (eqb b 10) parts.0 in
    rw (inner, lines_of-line bytes rest parts.1) refl

pieces_of-word : (bytes rest : List ℕ) → is_uncut bytes ≡ true → pieces_of (bytes ++ 32 ∷ rest) ≡ bytes ∷ pieces_of rest
pieces_of-word [] rest h = refl
pieces_of-word (b ∷ bytes) rest h =
    let parts = and_parts (is_inner b) (list_all is_inner bytes) h in
    let inner : eqb b 32 ≡ false = not-true (eqb b 32) (and_parts (not (eqb b 32)) (not (eqb b 10)) parts.0).0 in
    rw (inner, pieces_of-word bytes rest parts.1) refl

pieces_of-last : (bytes : List ℕ) → is_uncut bytes ≡ true → pieces_of bytes ≡ bytes ∷ []
pieces_of-last [] h = refl
pieces_of-last (b ∷ bytes) h =
    let parts = and_parts (is_inner b) (list_all is_inner bytes) h in
    let inner : eqb b 32 ≡ false = not-true (eqb b 32) (and_parts (not (eqb b 32)) (not (eqb b 10)) parts.0).0 in
    rw (inner, pieces_of-last bytes parts.1) refl

-- the pieces of words that are joined are the words
pub pieces_of-join : (word : List ℕ) (words : List (List ℕ)) → AreUncut (word ∷ words) → pieces_of (join_with_byte 32 (word ∷ words)) ≡ word ∷ words
pieces_of-join word [] h = pieces_of-last word (and_parts (is_uncut word) true h).0
pieces_of-join word (next ∷ words) h =
    let parts = and_parts (is_uncut word) (list_all is_uncut (next ∷ words)) h in
    pieces_of-word word (join_with_byte 32 (next ∷ words)) parts.0
    ∙ ap (λ pieces. word ∷ pieces) (pieces_of-join next words parts.1)

inner-word : (bytes : List ℕ) → is_uncut bytes ≡ true → list_all (λ b. not (eqb b 10)) bytes ≡ true
inner-word [] h = refl
inner-word (b ∷ bytes) h =
    let parts = and_parts (is_inner b) (list_all is_inner bytes) h in
    let inner = (and_parts (not (eqb b 32)) (not (eqb b 10)) parts.0).1 in
    rw (inner, inner-word bytes parts.1) refl

inner-line : (words : List (List ℕ)) → AreUncut words → list_all (λ b. not (eqb b 10)) (join_with_byte 32 words) ≡ true
inner-line [] h = refl
inner-line (word ∷ []) h = inner-word word (and_parts (is_uncut word) true h).0
inner-line (word ∷ next ∷ words) h =
    let parts = and_parts (is_uncut word) (list_all is_uncut (next ∷ words)) h in
    let here = inner-word word parts.0 in
    list_all-append (λ b. not (eqb b 10)) word (32 ∷ join_with_byte 32 (next ∷ words)) ∙ rw (here, inner-line (next ∷ words) parts.1) refl

-- what a text that begins with a line is cut into
lines_of-words : (words : List (List ℕ)) (rest : List ℕ) → AreUncut words → lines_of (line words ++ rest) ≡ join_with_byte 32 words ∷ lines_of rest
lines_of-words words rest h =
    ap lines_of (append_assoc (join_with_byte 32 words) (10 ∷ []) rest) ∙ lines_of-line (join_with_byte 32 words) rest (inner-line words h)

same_pieces : (words others : List (List ℕ)) → 0 < length words → 0 < length others → AreUncut words → AreUncut others
    → join_with_byte 32 words ≡ join_with_byte 32 others → words ≡ others
same_pieces [] others some also uncut too h = absurd (omega (arith, some))
same_pieces (word ∷ words) [] some also uncut too h = absurd (omega (arith, also))
same_pieces (word ∷ words) (other ∷ others) some also uncut too h =
    sym (pieces_of-join word words uncut) ∙ ap pieces_of h ∙ pieces_of-join other others too

-- Texts that begin with lines of words, and are the same, begin with the same words, and go on alike.
pub same_words : (words others : List (List ℕ)) (x y : List ℕ) → 0 < length words → 0 < length others → AreUncut words → AreUncut others
    → line words ++ x ≡ line others ++ y → (words ≡ others) × (x ≡ y)
same_words words others x y some also uncut too h =
    let first : join_with_byte 32 words ≡ join_with_byte 32 others = same_first in (
      same_pieces words others some also uncut too first,
      append_cancel_left (line words) x y (h ∙ ap (λ bytes. (bytes ++ 10 ∷ []) ++ y) (sym first)),
    )
  where
    same_first : join_with_byte 32 words ≡ join_with_byte 32 others
    same_first =
        let both : join_with_byte 32 words ∷ lines_of x ≡ join_with_byte 32 others ∷ lines_of y =
        sym (lines_of-words words x uncut) ∙ ap lines_of h ∙ lines_of-words others y too in
        cc

-- ---- the words of lines

-- the numbers of an ending fit 64 bits
abbrev FitsReached : Reached → Type 0
FitsReached (NewNode first) = (first.parent < 2 ^ 64) × (first.cost < 2 ^ 64) × (first.class < 2 ^ 64)
FitsReached (SameNode j) = j < 2 ^ 64
FitsReached NoWay = Unit {0}

abbrev FitsEnding : Ending → Type 0
FitsEnding (Steered m reached) = (m < 2 ^ 64) × FitsReached reached
FitsEnding (SkippedBy g) = g < 2 ^ 64

-- those of a record that fits its words
FitsEnding-record : (entry : Record) → FitsRecord entry → FitsEnding (ending_of entry)
FitsEnding-record entry h = by_outcome entry.outcome h.word.last
  where
    by_outcome : (o : Outcome) → last_field o entry.class < 2 ^ 18 → FitsEnding (ending_as entry o)
    by_outcome Placed last = (omega (arith, h.word.nearest), (omega (arith, h.parent), omega (arith, h.cost), omega (arith, last)))
    by_outcome (Same j) last = (omega (arith, h.word.nearest), omega (arith, last))
    by_outcome Blocked last = (omega (arith, h.word.nearest), tt)
    by_outcome Skipped last = omega (arith, h.word.nearest)

uncut-reached : (reached : Reached) → FitsReached reached → AreUncut (reached_words reached)
uncut-reached (NewNode first) fits = rw (uncut-decimal first.class fits.2, uncut-decimal first.parent fits.0, uncut-decimal first.cost fits.1) refl
uncut-reached (SameNode j) fits = rw (uncut-decimal j fits) refl
uncut-reached NoWay fits = refl

uncut-ending : (ending : Ending) → FitsEnding ending → AreUncut (ending_words ending)
uncut-ending (Steered m reached) fits = rw (uncut-decimal m fits.0, uncut-reached reached fits.1) refl
uncut-ending (SkippedBy g) fits = rw (uncut-decimal g fits) refl

uncut-skipped : (informed : Bool) (count : Option ℕ) → FitsSkipped informed count → AreUncut (skipped_count count)
uncut-skipped false None fits = refl
uncut-skipped true None fits = absurd fits
uncut-skipped false (Some count) fits = absurd fits
uncut-skipped true (Some count) fits = rw (uncut-decimal count fits) refl

-- the words of a line whose numbers are in their ranges have neither spaces nor line feeds
pub uncut-line : (extent : Extent) → extent.marks < 2 ^ 64 → (said : ReportLine) → FitsLine extent said → AreUncut (line_words said)
uncut-line extent few NoPath fits = refl
uncut-line extent few (PathOf points cost) fits = rw (uncut-decimal points fits.0, uncut-decimal cost (omega (arith, fits.1))) refl
uncut-line extent few (PathPoint p) fits = rw (uncut-decimal p.x (omega (arith, fits.right)), uncut-decimal p.y (omega (arith, fits.top))) refl
uncut-line extent few (Counts tally) fits =
    rw (
      uncut-decimal tally.nodes fits.nodes,
      uncut-decimal tally.placed fits.placed,
      uncut-decimal tally.same fits.same,
      uncut-decimal tally.blocked fits.blocked,
      uncut-skipped extent.informed tally.skipped fits.skipped,
    ) refl
uncut-line extent few (NodeLine n knot) fits =
    rw (
      uncut-decimal n (omega (arith, few, fits.number)),
      uncut-decimal knot.point.x (omega (arith, fits.point.right)),
      uncut-decimal knot.point.y (omega (arith, fits.point.top)),
      uncut-decimal knot.parent (omega (arith, few, fits.parent)),
      uncut-decimal knot.cost (omega (arith, fits.cost)),
    ) refl
uncut-line extent few (MarkLine k entry) fits =
    let own = fits.1 in
    let ending = uncut-ending (ending_of entry) (FitsEnding-record entry own.words) in
    rw (
      uncut-decimal k (omega (arith, few, fits.0)),
      uncut-decimal entry.worker (omega (arith, own.words.word.worker)),
      uncut-decimal entry.turn (omega (arith, own.words.word.turn)),
      ending,
    ) refl

pub some_words : (said : ReportLine) → 0 < length (line_words said)
some_words NoPath = omega arith
some_words said = omega arith

-- ---- what words say

-- words that are the same begin with the same byte
first_byte : {words others : List (List ℕ)} → words ≡ others → get_or (get_or words 0 []) 0 0 ≡ get_or (get_or others 0 []) 0 0
first_byte h = ap (λ (ws : List (List ℕ)). get_or (get_or ws 0 []) 0 0) h

-- endings with the same words are the same
same_reached : (one other : Reached) → FitsReached one → FitsReached other → reached_words one ≡ reached_words other → one ≡ other
same_reached (NewNode first) (NewNode new) fits also h =
    let class = decimal_injective first.class new.class fits.2 also.2 (cc) in
    let parent = decimal_injective first.parent new.parent fits.0 also.0 (cc) in
    let cost = decimal_injective first.cost new.cost fits.1 also.1 (cc) in
    λ i. NewNode (record { parent = parent i; cost = cost i; class = class i })
same_reached (SameNode j) (SameNode i) fits also h = ap SameNode (decimal_injective j i fits also (cc))
same_reached NoWay NoWay fits also h = refl
same_reached one other fits also h = absurd (cc)

same_endings : (one other : Ending) → FitsEnding one → FitsEnding other → ending_words one ≡ ending_words other → one ≡ other
same_endings (Steered m one) (Steered n other) fits also h =
    let nearest = decimal_injective m n fits.0 also.0 (cc) in
    let reached = same_reached one other fits.1 also.1 (cc) in
    λ i. Steered (nearest i) (reached i)
same_endings (SkippedBy g) (SkippedBy k) fits also h = ap SkippedBy (decimal_injective g k fits also (cc))
same_endings (Steered m one) (SkippedBy g) fits also h = absurd (omega (arith, first_byte h))
same_endings (SkippedBy g) (Steered n other) fits also h = absurd (omega (arith, first_byte h))

-- counts of skipped marks with the same words are the same
same_skipped : (informed : Bool) (one other : Option ℕ) → FitsSkipped informed one → FitsSkipped informed other
    → skipped_count one ≡ skipped_count other → one ≡ other
same_skipped informed None None fits also h = refl
same_skipped false (Some one) (Some other) fits also h = absurd fits
same_skipped true (Some one) (Some other) fits also h = ap Some (decimal_injective one other fits also (cc))
same_skipped informed one other fits also h = absurd (cc)

-- Lines with numbers in their ranges that have the same words say the same.
pub same_said : (extent : Extent) → extent.marks < 2 ^ 64 → (one other : ReportLine) → FitsLine extent one → FitsLine extent other
    → line_words one ≡ line_words other → one ≡ other
same_said extent few NoPath NoPath fits also h = refl
same_said extent few (PathOf points cost) (PathOf others price) fits also h =
    let same = decimal_injective points others fits.0 also.0 (cc) in
    let costs = decimal_injective cost price (omega (arith, fits.1)) (omega (arith, also.1)) (cc) in
    λ i. PathOf (same i) (costs i)
same_said extent few (PathPoint p) (PathPoint q) fits also h =
    let right = decimal_injective p.x q.x (omega (arith, fits.right)) (omega (arith, also.right)) (cc) in
    let top = decimal_injective p.y q.y (omega (arith, fits.top)) (omega (arith, also.top)) (cc) in
    λ i. PathPoint (record { x = right i; y = top i })
same_said extent few (Counts tally) (Counts counts) fits also h =
    let nodes = decimal_injective tally.nodes counts.nodes fits.nodes also.nodes (cc) in
    let placed = decimal_injective tally.placed counts.placed fits.placed also.placed (cc) in
    let same = decimal_injective tally.same counts.same fits.same also.same (cc) in
    let blocked = decimal_injective tally.blocked counts.blocked fits.blocked also.blocked (cc) in
    let skipped = same_skipped extent.informed tally.skipped counts.skipped fits.skipped also.skipped (cc) in
    λ i. Counts (record { nodes = nodes i; placed = placed i; same = same i; blocked = blocked i; skipped = skipped i })
same_said extent few (NodeLine n knot) (NodeLine m node) fits also h =
    let number = decimal_injective n m (omega (arith, few, fits.number)) (omega (arith, few, also.number)) (cc) in
    let right = decimal_injective knot.point.x node.point.x (omega (arith, fits.point.right)) (omega (arith, also.point.right)) (cc) in
    let top = decimal_injective knot.point.y node.point.y (omega (arith, fits.point.top)) (omega (arith, also.point.top)) (cc) in
    let parent = decimal_injective knot.parent node.parent (omega (arith, few, fits.parent)) (omega (arith, few, also.parent)) (cc) in
    let cost = decimal_injective knot.cost node.cost (omega (arith, fits.cost)) (omega (arith, also.cost)) (cc) in
    λ i. NodeLine (number i) (record { point = record { x = right i; y = top i }; parent = parent i; cost = cost i })
same_said extent few (MarkLine k entry) (MarkLine j other) fits also h =
    let own = fits.1 in
    let too = also.1 in
    let number = decimal_injective k j (omega (arith, few, fits.0)) (omega (arith, few, also.0)) (cc) in
    let worker = decimal_injective entry.worker other.worker (omega (arith, own.words.word.worker)) (omega (arith, too.words.word.worker)) (cc) in
    let turn = decimal_injective entry.turn other.turn (omega (arith, own.words.word.turn)) (omega (arith, too.words.word.turn)) (cc) in
    let ending = same_endings (ending_of entry) (ending_of other) (FitsEnding-record entry own.words) (FitsEnding-record other too.words) (cc) in
    let same : entry ≡ other =
    sym (record_of_ending-again entry) ∙ (λ i. record_of_ending (worker i) (turn i) (ending i)) ∙ record_of_ending-again other in
    λ i. MarkLine (number i) (same i)
same_said extent few NoPath (PathPoint q) fits also h =
    let first : decimal q.x ≡ codes "no" = cc in
    absurd (true≢false (sym (digits-decimal q.x (omega (arith, also.right))) ∙ ap (list_all is_digit) first))
same_said extent few (PathPoint p) NoPath fits also h =
    let first : decimal p.x ≡ codes "no" = cc in
    absurd (true≢false (sym (digits-decimal p.x (omega (arith, fits.right))) ∙ ap (list_all is_digit) first))
same_said extent few (Counts tally) (MarkLine j other) fits also h = absurd (omega (arith, first_byte h))
same_said extent few (NodeLine n knot) (MarkLine j other) fits also h = absurd (omega (arith, first_byte h))
same_said extent few (MarkLine k entry) (Counts counts) fits also h = absurd (omega (arith, first_byte h))
same_said extent few (MarkLine k entry) (NodeLine m node) fits also h = absurd (omega (arith, first_byte h))
same_said extent few one other fits also h = absurd (cc)

-- Texts that begin with lines whose numbers are in their ranges, and are the same, begin with the same line, and go on alike.
pub same_first_lines : (extent : Extent) → extent.marks < 2 ^ 64 → (one other : ReportLine) (x y : List ℕ) → FitsLine extent one → FitsLine extent other
    → line_text one ++ x ≡ line_text other ++ y → (one ≡ other) × (x ≡ y)
same_first_lines extent few one other x y fits also h =
    let both =
    same_words (line_words one) (line_words other) x y (some_words one) (some_words other) (uncut-line extent few one fits)
    (uncut-line extent few other also) h in
    (same_said extent few one other fits also both.0, both.1)
