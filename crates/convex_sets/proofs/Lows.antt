-- The lowest of some corners, and of these the leftmost.
use Rattle.convex_sets.proofs.Words.{◌≡◌, ℕ, ◌+◌, ◌<◌, Bool, true, false, MatchBool, List, length, refl, arith, ℤ, pos, ◌<ℤ◌, ◌≤ℤ◌, int_lt, ints, Vertex}
use Rattle.convex_sets.proofs.Words.{corner_at, IsBoundedCorner, from_to, rise, start}
use borrow.Author.Count.{below_more}
use Rattle.convex_sets.proofs.Corners.{bounded_corner}
use Rattle.convex_sets.proofs.Crosses.{cross-by_way}
use Rattle.convex_sets.proofs.MergeSteps.{zero_vector}

pub lt_cases : (x y : ℤ) (P Q : Type 0) → (x <ℤ y → P) → (y ≤ℤ x → Q) → MatchBool (int_lt x y) P Q
lt_cases x y P Q f g = by (int_lt x y) refl
  where
    by : (t : Bool) → int_lt x y ≡ t → MatchBool t P Q
    by true e = f (omega (arith, ints))
    by false e = g (omega (arith, ints))

pub rise-lower : (a b : Vertex) → IsBoundedCorner a → IsBoundedCorner b → a.y <ℤ b.y → pos 0 ≤ℤ rise (from_to a b)
rise-lower a b p q h =
    let f = bounded_corner a p in
    let g = bounded_corner b q in
    omega (arith, ints)

pub rise-left : (a b : Vertex) → a.y ≡ b.y → a.x ≤ℤ b.x → pos 0 ≤ℤ rise (from_to a b)
rise-left a b e h = omega (arith, ints)

-- none of the first n corners is lower than this one
pub record IsLowestOf (corners : List Vertex) (lowest n : ℕ) : Type 0 where
  pub within : lowest < length corners
  pub least : (k : ℕ) → k < n → pos 0 ≤ℤ rise (from_to (corner_at corners lowest) (corner_at corners k))

pub IsLowestOf-keeps : (corners : List Vertex) (lowest n : ℕ) → IsLowestOf corners lowest n
    → pos 0 ≤ℤ rise (from_to (corner_at corners lowest) (corner_at corners n)) → IsLowestOf corners lowest (n + 1)
IsLowestOf-keeps corners lowest n h f = record { within = h.within; least = below_more _ n h.least f }

pub IsLowestOf-takes : (corners : List Vertex) (lowest n : ℕ) → n < length corners → IsLowestOf corners lowest n
    → pos 0 ≤ℤ rise (from_to (corner_at corners n) (corner_at corners lowest)) → IsLowestOf corners n (n + 1)
IsLowestOf-takes corners lowest n inside h f =
    record {
      within = inside;
      least = below_more _ n (λ k l.
          let g = h.least k l in
          omega (arith, ints, cross-by_way start (corner_at corners n) (corner_at corners lowest) (corner_at corners k)))
          (rw (zero_vector start (corner_at corners n)) (omega (arith, ints)));
    }
