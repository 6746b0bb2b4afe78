-- Two heads differ first at the first line if one alone has a path, or the paths differ in length or cost; or else at a point or the counts.
use Rattle.report_judge.proofs.Words.{◌≡◌, ℕ, zero, suc, ◌<◌, ◌≤◌, List, [], ◌∷◌, ◌++◌, length, map, get_or, Option, Some, None, arith, refl, sym, ap, ◌∙◌}
use Rattle.report_judge.proofs.Words.{subst, inl, inr, length-append, ◌⊎◌, slice_get, cases_lt, length-map, slice_get-get_or, slice_get_within, Point}
use Rattle.report_judge.proofs.Words.{IsFirstBreak, KeepsHead, KeepsPoint, ReportLine, PathOf, PathPoint, Counts, PricedPath, head_lines, Tally}
use Rattle.std.specs.Prelude.{IfNone, IfSome}

-- the lines after that of the path
abbrev later : List Point → Tally → List ReportLine
later points tally = map PathPoint points ++ Counts tally ∷ []

point_line : (points : List Point) (tally : Tally) (i : ℕ) (p : Point) → slice_get points i ≡ Some p → slice_get (later points tally) i ≡ Some (PathPoint p)
point_line [] tally i p is = absurd (omega (arith, slice_get_within [] i p is))
point_line (q ∷ points) tally zero p is = let same : q ≡ p = cc in ap (λ (r : Point). Some (PathPoint r)) same
point_line (q ∷ points) tally (suc i) p is = point_line points tally i p is

counts_line : (points : List Point) (tally : Tally) → slice_get (later points tally) (length points) ≡ Some (Counts tally)
counts_line [] tally = refl
counts_line (q ∷ points) tally = counts_line points tally

length-later : (points : List Point) (tally : Tally) → length (later points tally) ≡ suc (length points)
length-later points tally = omega (arith, length-append (map PathPoint points) (Counts tally ∷ []), length-map points PathPoint)

abbrev nowhere : Point
nowhere = record { x = 0; y = 0 }

module _ (points own : List Point) (tally counts : Tally) (long : length own ≡ length points) where
  there : (i : ℕ) → i < length points → slice_get points i ≡ Some (get_or points i nowhere)
  there i low = slice_get-get_or points i nowhere low

  own_there : (i : ℕ) → i < length points → slice_get own i ≡ Some (get_or own i nowhere)
  own_there i low = slice_get-get_or own i nowhere (omega (arith, low, long))

  alike : (i : ℕ) → i < length points → KeepsPoint points own i → slice_get (later points tally) i ≡ slice_get (later own counts) i
  alike i low same =
      let p : Point = get_or points i nowhere in
      point_line points tally i p (there i low) ∙ sym (point_line own counts i p (sym same ∙ there i low))

  unlike : (i : ℕ) → i < length points → slice_get (later points tally) i ≡ slice_get (later own counts) i → KeepsPoint points own i
  unlike i low same =
      let p : Point = get_or points i nowhere in
      let q : Point = get_or own i nowhere in
      let both : Some (PathPoint p) ≡ Some (PathPoint q) =
      sym (point_line points tally i p (there i low)) ∙ same ∙ point_line own counts i q (own_there i low) in
      let e : p ≡ q = cc in
      there i low ∙ ap (λ (r : Point). Some r) e ∙ sym (own_there i low)

  counts_alike : tally ≡ counts → slice_get (later points tally) (length points) ≡ slice_get (later own counts) (length points)
  counts_alike same =
      counts_line points tally ∙ ap (λ (t : Tally). Some (Counts t)) same ∙ sym (counts_line own counts) ∙ ap (slice_get (later own counts)) long

  counts_unlike : slice_get (later points tally) (length points) ≡ slice_get (later own counts) (length points) → tally ≡ counts
  counts_unlike same =
      let both : Some (Counts tally) ≡ Some (Counts counts) =
      sym (counts_line points tally) ∙ same ∙ ap (slice_get (later own counts)) (sym long) ∙ counts_line own counts in
      cc

-- ---- two paths

module _ (path own : PricedPath) (tally counts : Tally) where
  abbrev Keeps : ℕ → Type 0
  Keeps = KeepsHead (Some path) tally (Some own) counts

  abbrev limit : ℕ
  limit = length (head_lines (Some path) tally)

  module _ (long : length own.points ≡ length path.points) (dear : own.cost ≡ path.cost) where
    first_line : Keeps 0
    first_line = λ t. Some (PathOf (sym long t) (sym dear t))

    points_alike : (j : ℕ) → j ≤ length path.points → ((i : ℕ) → i < j → KeepsPoint path.points own.points i) → (k : ℕ) → k < suc j → Keeps k
    points_alike j few same zero low = first_line
    points_alike j few same (suc k) low =
        alike path.points own.points tally counts long k (omega (arith, low, few)) (same k (omega (arith, low)))

    -- the first point that differs
    pub points_unlike : (j : ℕ) → IsFirstBreak (KeepsPoint path.points own.points) (length path.points) (Some j) → IsFirstBreak Keeps limit (Some (suc j))
    points_unlike j first = (
      omega (arith, length-later path.points tally, first.0),
      λ k low. points_alike j (omega (arith, first.0)) first.1 k low,
      λ e. first.2 (unlike path.points own.points tally counts long j first.0 e),
    )

    module _ (same : (i : ℕ) → i < length path.points → KeepsPoint path.points own.points i) where
      -- the counts differ
      pub counts_differ : ¬ (tally ≡ counts) → IsFirstBreak Keeps limit (Some (suc (length path.points)))
      counts_differ other = (
        omega (arith, length-later path.points tally),
        λ k low. points_alike (length path.points) (omega arith) same k low,
        λ e. other (counts_unlike path.points own.points tally counts long e),
      )

      -- or nothing does
      pub heads_alike : tally ≡ counts → IsFirstBreak Keeps limit None
      heads_alike equal = λ k low. by_line k low (cases_lt k (suc (length path.points)))
        where
          by_line : (k : ℕ) → k < limit → (k < suc (length path.points)) ⊎ (suc (length path.points) ≤ k) → Keeps k
          by_line k low (inl within) = points_alike (length path.points) (omega arith) same k within
          by_line k low (inr past) =
              let last : suc (length path.points) ≡ k = omega (arith, low, past, length-later path.points tally) in
              subst Keeps last (counts_alike path.points own.points tally counts long equal)

      pub counts_found : (line : ℕ) → line ≡ suc (length path.points) → (found : Option ℕ) → IfNone found (tally ≡ counts)
          → IfSome found (λ n. (n ≡ line) × ¬ (tally ≡ counts)) → IsFirstBreak Keeps limit found
      counts_found line is None equal other = heads_alike equal
      counts_found line is (Some n) equal other = subst (λ m. IsFirstBreak Keeps limit (Some m)) (sym (other.0 ∙ is)) (counts_differ other.1)
