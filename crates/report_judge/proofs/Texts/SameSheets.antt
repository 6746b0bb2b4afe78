-- Sheets in form with the same lines say the same.
use Rattle.report_judge.proofs.Words.{◌≡◌, ℕ, zero, suc, ◌<◌, ◌≤◌, cond, eqb, List, [], ◌∷◌, ◌++◌, length, map, get_or, Option, Some, None, arith, refl, sym}
use Rattle.report_judge.proofs.Words.{ap, ◌∙◌, inl, inr, append_assoc, ◌≢◌, slice_get, slice_index_or, range_with_len, flat_map, cases_lt, eq-eqb, ne_eqb}
use Rattle.report_judge.proofs.Words.{ext_get_or, slice_get-get_or, Point, Blocked, Record, Knot, unplaced_record, counts_place, ReportLine, Extent, PathPoint}
use Rattle.report_judge.proofs.Words.{Counts, NodeLine, MarkLine, PricedPath, Sheet, HasForm, path_lines, head_lines, line_of_knot, line_of_record}
use Rattle.report_judge.proofs.Words.{lines_of_knots, lines_of_records, lines_of_sheet, Tally}
use Rattle.report_judge.proofs.Texts.SheetForms.{counts_place-tree, flat_map-more, length-nodes}

-- ---- lists

-- lists in two parts that are the same, with first parts of one length, have the same parts
split_same : {A : Type 0} → (xs ys us vs : List A) → length xs ≡ length ys → xs ++ us ≡ ys ++ vs → (xs ≡ ys) × (us ≡ vs)
split_same [] [] us vs long h = (refl, h)
split_same [] (y ∷ ys) us vs long h = absurd (omega (arith, long))
split_same (x ∷ xs) [] us vs long h = absurd (omega (arith, long))
split_same (x ∷ xs) (y ∷ ys) us vs long h =
    let first : x ≡ y = cc in
    let tail : xs ++ us ≡ ys ++ vs = cc in
    let rest = split_same xs ys us vs (omega (arith, long)) tail in
    ((λ i. first i ∷ rest.0 i), rest.1)

-- the first value, or else the other
abbrev or_else : {A : Type 0} → Option A → Option A → Option A
or_else None o = o
or_else (Some x) o = Some x

or_else-none : {A : Type 0} → (o : Option A) → or_else o None ≡ o
or_else-none None = refl
or_else-none (Some x) = refl

or_else-assoc : {A : Type 0} → (one two three : Option A) → or_else (or_else one two) three ≡ or_else one (or_else two three)
or_else-assoc None two three = refl
or_else-assoc (Some x) two three = refl

-- what the first of the lines gives that gives something
abbrev found : {A : Type 0} → (ReportLine → Option A) → List ReportLine → Option A
found pick [] = None
found pick (own ∷ lines) = or_else (pick own) (found pick lines)

found-append : {A : Type 0} → (pick : ReportLine → Option A) (lines others : List ReportLine)
    → found pick (lines ++ others) ≡ or_else (found pick lines) (found pick others)
found-append pick [] others = refl
found-append pick (own ∷ lines) others =
    ap (or_else (pick own)) (found-append pick lines others) ∙ sym (or_else-assoc (pick own) (found pick lines) (found pick others))

-- ---- numbered lines

module _
    (A : Type 0) (pick : ℕ → ReportLine → Option A) (of : ℕ → Option A → List ReportLine)
    (own : (n : ℕ) (o : Option A) → found (pick n) (of n o) ≡ o)
    (other : (n m : ℕ) (o : Option A) → n ≢ m → found (pick n) (of m o) ≡ None) (values : ℕ → Option A) where
  abbrev lines_below : ℕ → List ReportLine
  lines_below m = flat_map (λ n. of n (values n)) (range_with_len 0 m)

  one_more : (n m : ℕ) → found (pick n) (lines_below (suc m)) ≡ or_else (found (pick n) (lines_below m)) (found (pick n) (of m (values m)))
  one_more n m = ap (found (pick n)) (flat_map-more (λ i. of i (values i)) m) ∙ found-append (pick n) (lines_below m) (of m (values m))

  -- a number past those of the lines is not found,
  found-past : (n m : ℕ) → m ≤ n → found (pick n) (lines_below m) ≡ None
  found-past n zero past = refl
  found-past n (suc m) past =
      one_more n m
      ∙ ap (λ o. or_else o (found (pick n) (of m (values m)))) (found-past n m (omega (arith, past)))
      ∙ other n m (values m) (λ e. omega (arith, past, e))

  -- and one below them with its value
  pub found-below : (n m : ℕ) → n < m → found (pick n) (lines_below m) ≡ values n
  found-below n zero low = absurd (omega (arith, low))
  found-below n (suc m) low =
      elim (cases_lt n m) [
        | inl less ↦ (
            one_more n m
            ∙ ap (λ o. or_else o (found (pick n) (of m (values m)))) (found-below n m less)
            ∙ ap (or_else (values n)) (other n m (values m) (λ e. omega (arith, less, e)))
            ∙ or_else-none (values n))
        | inr last ↦ (
            let e : m ≡ n = omega (arith, low, last) in
            one_more n m
            ∙ ap (λ o. or_else o (found (pick n) (of m (values m)))) (found-past n m last)
            ∙ ap (λ i. found (pick n) (of i (values i))) e
            ∙ own n (values n))
      ]

-- ---- nodes and marks

-- the node that a line tells of, if it has this number
abbrev knot_in : ℕ → ReportLine → Option Knot
knot_in n (NodeLine m knot) = cond (eqb n m) (Some knot) None
knot_in n said = None

-- the record that a line tells of, if it is of this mark
abbrev record_in : ℕ → ReportLine → Option Record
record_in n (MarkLine k entry) = cond (eqb n k) (Some entry) None
record_in n said = None

own_knot : (n : ℕ) (o : Option Knot) → found (knot_in n) (line_of_knot n o) ≡ o
own_knot n None = refl
own_knot n (Some knot) = or_else-none (cond (eqb n n) (Some knot) None) ∙ ap (λ b. cond b (Some knot) None) (eq-eqb n n refl)

other_knot : (n m : ℕ) (o : Option Knot) → n ≢ m → found (knot_in n) (line_of_knot m o) ≡ None
other_knot n m None apart = refl
other_knot n m (Some knot) apart = or_else-none (cond (eqb n m) (Some knot) None) ∙ ap (λ b. cond b (Some knot) None) (ne_eqb n m apart)

own_record : (n : ℕ) (o : Option Record) → found (record_in n) (line_of_record n o) ≡ o
own_record n None = refl
own_record n (Some entry) = or_else-none (cond (eqb n n) (Some entry) None) ∙ ap (λ b. cond b (Some entry) None) (eq-eqb n n refl)

other_record : (n m : ℕ) (o : Option Record) → n ≢ m → found (record_in n) (line_of_record m o) ≡ None
other_record n m None apart = refl
other_record n m (Some entry) apart = or_else-none (cond (eqb n m) (Some entry) None) ∙ ap (λ b. cond b (Some entry) None) (ne_eqb n m apart)

-- lists of nodes of one length with the same lines are the same
same_knots : (knots others : List (Option Knot)) → length knots ≡ length others → lines_of_knots knots ≡ lines_of_knots others → knots ≡ others
same_knots knots others long h = ext_get_or None knots others long (λ n low. by_lines n low)
  where
    by_lines : (n : ℕ) → n < length knots → get_or knots n None ≡ get_or others n None
    by_lines n low =
        sym (found-below Knot knot_in line_of_knot own_knot other_knot (λ i. slice_index_or knots i None) n (length knots) low)
        ∙ ap (found (knot_in n)) h
        ∙ found-below Knot knot_in line_of_knot own_knot other_knot (λ i. slice_index_or others i None) n (length others) (omega (arith, low, long))

-- and so are lists of records
same_records : (records others : List Record) → length records ≡ length others → lines_of_records records ≡ lines_of_records others → records ≡ others
same_records records others long h = ext_get_or (unplaced_record 0 0 0 Blocked) records others long (λ k low. by_lines k low)
  where
    by_lines : (k : ℕ) → k < length records → get_or records k (unplaced_record 0 0 0 Blocked) ≡ get_or others k (unplaced_record 0 0 0 Blocked)
    by_lines k low =
        let also : k < length others = omega (arith, low, long) in
        let both : Some (get_or records k (unplaced_record 0 0 0 Blocked)) ≡ Some (get_or others k (unplaced_record 0 0 0 Blocked)) =
        sym (slice_get-get_or records k (unplaced_record 0 0 0 Blocked) low)
        ∙ sym (found-below Record record_in line_of_record own_record other_record (slice_get records) k (length records) low)
        ∙ ap (found (record_in k)) h
        ∙ found-below Record record_in line_of_record own_record other_record (slice_get others) k (length others) also
        ∙ slice_get-get_or others k (unplaced_record 0 0 0 Blocked) also in
        cc

-- ---- paths

same_points : (points others : List Point) → map PathPoint points ≡ map PathPoint others → points ≡ others
same_points [] [] h = refl
same_points [] (q ∷ others) h = absurd (cc)
same_points (p ∷ points) [] h = absurd (cc)
same_points (p ∷ points) (q ∷ others) h =
    let first : p ≡ q = cc in
    let tail : map PathPoint points ≡ map PathPoint others = cc in
    let rest = same_points points others tail in
    λ i. first i ∷ rest i

same_path : (path other : Option PricedPath) → path_lines path ≡ path_lines other → path ≡ other
same_path None None h = refl
same_path None (Some other) h = absurd (cc)
same_path (Some path) None h = absurd (cc)
same_path (Some path) (Some other) h =
    let cost : path.cost ≡ other.cost = cc in
    let lines : map PathPoint path.points ≡ map PathPoint other.points = cc in
    let points = same_points path.points other.points lines in
    λ i. Some (record { points = points i; cost = cost i })

-- ---- sheets

module _
    (extent : Extent) (sheet told : Sheet) (form : HasForm extent sheet) (also : HasForm extent told)
    (h : lines_of_sheet sheet ≡ lines_of_sheet told) where
  abbrev rest_of : Sheet → List ReportLine
  rest_of s = lines_of_knots s.knots ++ lines_of_records s.records

  -- the lines of the path, that of the counts, and the rest
  parted : (s : Sheet) → lines_of_sheet s ≡ path_lines s.path ++ (Counts s.tally ∷ rest_of s)
  parted s =
      append_assoc (head_lines s.path s.tally) (lines_of_knots s.knots) (lines_of_records s.records)
      ∙ append_assoc (path_lines s.path) (Counts s.tally ∷ []) (rest_of s)

  place : (s : Sheet) → counts_place (lines_of_sheet s) ≡ length (path_lines s.path)
  place s = counts_place-tree s.path s.tally (lines_of_knots s.knots) (lines_of_records s.records)

  parts : (path_lines sheet.path ≡ path_lines told.path) × (Counts sheet.tally ∷ rest_of sheet ≡ Counts told.tally ∷ rest_of told)
  parts =
      split_same (path_lines sheet.path) (path_lines told.path) (Counts sheet.tally ∷ rest_of sheet) (Counts told.tally ∷ rest_of told)
      (sym (place sheet) ∙ ap counts_place h ∙ place told) (sym (parted sheet) ∙ h ∙ parted told)

  tally : sheet.tally ≡ told.tally
  tally = let rest : Counts sheet.tally ∷ rest_of sheet ≡ Counts told.tally ∷ rest_of told = parts.1 in cc

  rest : rest_of sheet ≡ rest_of told
  rest = let both : Counts sheet.tally ∷ rest_of sheet ≡ Counts told.tally ∷ rest_of told = parts.1 in cc

  bodies : (lines_of_knots sheet.knots ≡ lines_of_knots told.knots) × (lines_of_records sheet.records ≡ lines_of_records told.records)
  bodies =
      split_same (lines_of_knots sheet.knots) (lines_of_knots told.knots) (lines_of_records sheet.records) (lines_of_records told.records)
      (length-nodes extent sheet form ∙ ap (λ (t : Tally). t.nodes) tally ∙ sym (length-nodes extent told also)) rest

  -- The two are the same.
  pub same_sheets : sheet ≡ told
  same_sheets =
      let path = same_path sheet.path told.path parts.0 in
      let knots = same_knots sheet.knots told.knots (form.numbers ∙ sym also.numbers) bodies.0 in
      let records = same_records sheet.records told.records (form.all_marks ∙ sym also.all_marks) bodies.1 in
      λ i. record { path = path i; tally = tally i; knots = knots i; records = records i }
