-- One more line is read at the front of a text.
use Rattle.report_judge.proofs.Words.{◌≡◌, ℕ, zero, suc, ◌+◌, ◌-◌, ◌<◌, ◌≤◌, ◌^◌, false, List, [], ◌∷◌, ◌++◌, length, set, replicate, Option, Some, None, arith}
use Rattle.report_judge.proofs.Words.{refl, sym, ap, ◌∙◌, subst, inl, inr, append_assoc, append-nil, length-append, ◌≢◌, ◌⊎◌, IsSome, is_some, slice_get}
use Rattle.report_judge.proofs.Words.{slice_index_or, range_with_len, flat_map, cases_eq, cases_lt, flat_map-append, get_or-set_at, get_or-replicate}
use Rattle.report_judge.proofs.Words.{get_or_past, get_or-set_other, length-replicate, get_or_from_slice_get, Record, Knot, IsKnot, IsKnot-at, IsNextNode}
use Rattle.report_judge.proofs.Words.{ReadsNodes, MayFollow, ReportLine, line_text, lines_text, FitsKnot, Counts, NodeLine, MarkLine, line_of_knot}
use Rattle.report_judge.proofs.Words.{line_of_record, lines_of_knots, lines_of_records, Tally}
use Rattle.std.proofs.lemmas.List.{length-set}
use Rattle.report_judge.proofs.Texts.LineWords.{same_first_lines}
use Rattle.report_judge.proofs.Texts.SheetForms.{flat_map-more}
use Rattle.report_judge.proofs.Texts.ListPlaces.{slice_get-left, slice_get-seam}

-- a text goes on after one line more
pub one_more : (text rest after : List ℕ) (lines : List ReportLine) (next : ReportLine) → text ≡ lines_text lines ++ rest
    → rest ≡ line_text next ++ after → text ≡ lines_text (lines ++ next ∷ []) ++ after
one_more text rest after lines next is goes =
    let last : lines_text (next ∷ []) ≡ line_text next = append-nil (line_text next) in
    is ∙ ap (λ x. lines_text lines ++ x) goes
    ∙ sym (append_assoc (lines_text lines) (line_text next) after)
    ∙ ap (λ x. (lines_text lines ++ x) ++ after) (sym last)
    ∙ ap (λ x. x ++ after) (sym (flat_map-append line_text lines (next ∷ [])))

-- ---- lists

same_below : {A : Type 0} → (f g : ℕ → List A) (n : ℕ) → ((j : ℕ) → j < n → f j ≡ g j) → flat_map f (range_with_len 0 n) ≡ flat_map g (range_with_len 0 n)
same_below f g zero h = refl
same_below f g (suc n) h =
    flat_map-more f n
    ∙ (λ i. same_below f g n (λ j low. h j (omega (arith, low))) i ++ h n (omega arith) i)
    ∙ sym (flat_map-more g n)

-- numbers that give nothing add nothing
none_past : {A : Type 0} → (f : ℕ → List A) (n d : ℕ) → ((j : ℕ) → n ≤ j → f j ≡ []) → flat_map f (range_with_len 0 (d + n)) ≡ flat_map f (range_with_len 0 n)
none_past f n zero h = let none : 0 + n ≡ n = omega arith in ap (λ m. flat_map f (range_with_len 0 m)) none
none_past f n (suc d) h =
    let next : suc d + n ≡ suc (d + n) = omega arith in
    ap (λ m. flat_map f (range_with_len 0 m)) next
    ∙ flat_map-more f (d + n)
    ∙ (λ i. none_past f n d h i ++ h (d + n) (omega arith) i)
    ∙ append-nil (flat_map f (range_with_len 0 n))

none_to : {A : Type 0} → (f : ℕ → List A) (n m : ℕ) → n ≤ m → ((j : ℕ) → n ≤ j → f j ≡ []) → flat_map f (range_with_len 0 m) ≡ flat_map f (range_with_len 0 n)
none_to f n m low h =
    let gap : m ≡ (m - n) + n = omega (arith, low) in
    ap (λ k. flat_map f (range_with_len 0 k)) gap ∙ none_past f n (m - n) h

-- ---- records

-- one more record has one more line
pub lines_of_records-push : (records : List Record) (entry : Record)
    → lines_of_records (records ++ entry ∷ []) ≡ lines_of_records records ++ MarkLine (length records) entry ∷ []
lines_of_records-push records entry =
    let more : List Record = records ++ entry ∷ [] in
    let n : ℕ = length records in
    let long : length more ≡ suc n = omega (arith, length-append records (entry ∷ [])) in
    ap (λ m. flat_map (λ k. line_of_record k (slice_get more k)) (range_with_len 0 m)) long
    ∙ flat_map-more (λ k. line_of_record k (slice_get more k)) n
    ∙ (λ i. same_below (λ k. line_of_record k (slice_get more k)) (λ k. line_of_record k (slice_get records k)) n
    (λ j low. ap (line_of_record j) (slice_get-left records (entry ∷ []) j low)) i
    ++ line_of_record n (slice_get-seam records entry [] i))

-- ---- nodes

-- the lines end with that of the node before this number, if there is any
abbrev pub EndsBefore : ℕ → List ReportLine → Type 0
EndsBefore zero lines = lines ≡ []
EndsBefore (suc m) lines = (before : List ReportLine) × (knot : Knot) × (lines ≡ before ++ NodeLine m knot ∷ [])

-- the nodes so far, all of them below the next number
pub record HasRead (marks : ℕ) (bytes : List ℕ) (knots : List (Option Knot)) (count next : ℕ) (rest : List ℕ) : Type 0 where
  pub numbers : length knots ≡ suc marks
  pub text : bytes ≡ lines_text (lines_of_knots knots) ++ rest
  pub counted : length (lines_of_knots knots) ≡ count
  pub fit : (n : ℕ) (knot : Knot) → IsKnot knots n knot → FitsKnot marks n knot
  pub start : 0 < count → IsSome (slice_index_or knots 0 None)
  pub above : (m : ℕ) → next ≤ m → slice_index_or knots m None ≡ None
  pub last : EndsBefore next (lines_of_knots knots)

-- no node
abbrev no_knot : Option Knot
no_knot = None

none_in : (n m : ℕ) → slice_index_or (replicate n no_knot) m None ≡ None
none_in n m =
    elim (cases_lt m n) [
      | inl low ↦ get_or-replicate n m no_knot None low
      | inr past ↦ get_or_past (replicate n no_knot) m None (omega (arith, past, length-replicate n no_knot))
    ]

pub HasRead-none : (marks size : ℕ) (text : List ℕ) → size ≡ suc marks → HasRead marks text (replicate size None) 0 0 text
HasRead-none marks size text is =
    let knots : List (Option Knot) = replicate size no_knot in
    let lines : lines_of_knots knots ≡ [] =
    none_to (λ n. line_of_knot n (slice_index_or knots n None)) 0 (length knots) (omega arith) (λ j low. ap (line_of_knot j) (none_in size j)) in
    record {
      numbers = omega (arith, is, length-replicate size no_knot);
      text = ap (λ those. lines_text those ++ text) (sym lines);
      counted = ap length lines;
      fit = λ n knot is. let gone = sym (get_or_from_slice_get knots n (Some knot) None is) ∙ none_in size n in absurd (cc);
      start = λ low. absurd (omega (arith, low));
      above = λ m low. none_in size m;
      last = lines;
    }

-- a node that stands next comes after all that were read
may_come : (next : ℕ) (lines : List ReportLine) → EndsBefore next lines → (tally : Tally) (n : ℕ)
    → MayFollow n (slice_get (Counts tally ∷ lines) (length lines)) → IsNextNode next n
may_come zero lines ends tally n h = subst (λ those. MayFollow n (slice_get (Counts tally ∷ those) (length those))) ends h
may_come (suc m) lines (before, knot, ends) tally n h =
    let all : List ReportLine = before ++ NodeLine m knot ∷ [] in
    let long : length all ≡ suc (length before) = omega (arith, length-append before (NodeLine m knot ∷ [])) in
    let moved : MayFollow n (slice_get (Counts tally ∷ all) (length all)) =
    subst (λ those. MayFollow n (slice_get (Counts tally ∷ those) (length those))) ends h in
    subst (MayFollow n) (ap (slice_get (Counts tally ∷ all)) long ∙ slice_get-seam before (NodeLine m knot) []) moved

-- what was read is all if no node can stand next
pub ReadsNodes-ended : {marks : ℕ} {text : List ℕ} {knots : List (Option Knot)} {count next : ℕ} {rest : List ℕ} (most : ℕ)
    → HasRead marks text knots count next rest → count ≤ most
    → (count < most → (n : ℕ) (knot : Knot) (after : List ℕ) → IsNextNode next n → FitsKnot marks n knot → rest ≡ line_text (NodeLine n knot) ++ after → ⊥)
    → ReadsNodes marks most text knots count rest
ReadsNodes-ended {knots} {next} most read few ended = record {
  numbers = read.numbers;
  text = read.text;
  counted = read.counted;
  few = few;
  fit = read.fit;
  start = read.start;
  ended = λ low tally n knot after may fits e. ended low n knot after (may_come next (lines_of_knots knots) read.last tally n may) fits e;
}

-- a line of another node does not stand where one does
pub other_node : (marks : ℕ) → marks < 2 ^ 64 → (rest after : List ℕ) (n : ℕ) (knot : Knot) → FitsKnot marks n knot
    → rest ≡ line_text (NodeLine n knot) ++ after → (m : ℕ) (other : Knot) (more : List ℕ) → FitsKnot marks m other
    → rest ≡ line_text (NodeLine m other) ++ more → n ≡ m
other_node marks few rest after n knot fits is m other more also e =
    let same : NodeLine n knot ≡ NodeLine m other =
    (same_first_lines (record { marks = marks; informed = false }) few (NodeLine n knot) (NodeLine m other) after more fits also (sym is ∙ e)).0 in
    cc

not_before : (next n : ℕ) → IsNextNode next n → next ≤ n
not_before zero n h = omega arith
not_before (suc m) n h = omega (arith, h)

module _
    {marks : ℕ} {text : List ℕ} {knots : List (Option Knot)} {count next : ℕ} {rest : List ℕ} {n : ℕ} {knot : Knot}
    (read : HasRead marks text knots count next rest) (follows : IsNextNode next n) (fits : FitsKnot marks n knot) where
  within : n < length knots
  within = omega (arith, read.numbers, fits.number)

  abbrev more : List (Option Knot)
  more = set knots n (Some knot)

  absent : (m : ℕ) → n ≤ m → slice_index_or knots m None ≡ None
  absent m low = read.above m (omega (arith, low, not_before next n follows))

  others : (m : ℕ) → m ≢ n → slice_index_or more m None ≡ slice_index_or knots m None
  others m apart = get_or-set_other knots n m (Some knot) None apart

  own : slice_index_or more n None ≡ Some knot
  own = get_or-set_at knots n n (Some knot) None refl within

  -- the node's line comes after the others
  lines_more : lines_of_knots more ≡ lines_of_knots knots ++ NodeLine n knot ∷ []
  lines_more =
      let f : ℕ → List ReportLine = λ k. line_of_knot k (slice_index_or more k None) in
      let g : ℕ → List ReportLine = λ k. line_of_knot k (slice_index_or knots k None) in
      none_to f (suc n) (length more) (omega (arith, within, length-set knots n (Some knot)))
      (λ j low. ap (line_of_knot j) (others j (λ e. omega (arith, e, low)) ∙ absent j (omega (arith, low))))
      ∙ flat_map-more f n
      ∙ (λ i. same_below f g n (λ j low. ap (line_of_knot j) (others j (λ e. omega (arith, e, low)))) i ++ line_of_knot n (own i))
      ∙ ap (λ lines. lines ++ NodeLine n knot ∷ [])
      (sym (none_to g n (length knots) (omega (arith, within)) (λ j low. ap (line_of_knot j) (absent j low))))

  fit_more : (m : ℕ) (other : Knot) → IsKnot more m other → FitsKnot marks m other
  fit_more m other is = by_number (cases_eq m n)
    where
      at : slice_index_or more m None ≡ Some other
      at = get_or_from_slice_get more m (Some other) None is

      by_number : (m ≡ n) ⊎ (m ≢ n) → FitsKnot marks m other
      by_number (inl e) =
          let here : slice_index_or more m None ≡ Some knot = ap (λ k. slice_index_or more k None) e ∙ own in
          let both : Some knot ≡ Some other = sym here ∙ at in
          let same : knot ≡ other = cc in
          subst (λ k. FitsKnot marks k other) (sym e) (subst (FitsKnot marks n) same fits)
      by_number (inr apart) = read.fit m other (IsKnot-at knots m other (sym (others m apart) ∙ at))

  start_more : IsSome (slice_index_or more 0 None)
  start_more = by_next next follows read.last read.start
    where
      by_next : (next : ℕ) → IsNextNode next n → EndsBefore next (lines_of_knots knots) → (0 < count → IsSome (slice_index_or knots 0 None))
          → IsSome (slice_index_or more 0 None)
      by_next zero zeroth ends start =
          let here : slice_index_or more 0 None ≡ Some knot = ap (λ k. slice_index_or more k None) (sym zeroth) ∙ own in
          ap is_some here
      by_next (suc m) low (before, last, ends) start =
          let some : 0 < count = omega (arith, sym read.counted, ap length ends, length-append before (NodeLine m last ∷ [])) in
          ap is_some (others 0 (λ e. omega (arith, e, low))) ∙ start some

  -- one node more is read
  pub HasRead-more : {after : List ℕ} → rest ≡ line_text (NodeLine n knot) ++ after → HasRead marks text more (count + 1) (n + 1) after
  HasRead-more {after} goes =
      let next : suc n ≡ n + 1 = omega arith in
      record {
        numbers = length-set knots n (Some knot) ∙ read.numbers;
        text =
            subst (λ lines. text ≡ lines_text lines ++ after) (sym lines_more)
            (one_more text rest after (lines_of_knots knots) (NodeLine n knot) read.text goes);
        counted = omega (arith, ap length lines_more, length-append (lines_of_knots knots) (NodeLine n knot ∷ []), read.counted);
        fit = fit_more;
        start = λ low. start_more;
        above = λ m low. others m (λ e. omega (arith, e, low)) ∙ absent m (omega (arith, low));
        last = subst (λ k. EndsBefore k (lines_of_knots more)) next (lines_of_knots knots, knot, lines_more);
      }
