-- Elements of a list by their index.
use Rattle.growing_tests.proofs.Words.{◌≡◌, ℕ, zero, suc, ◌<◌, List, [], ◌∷◌, length, refl, arith, slice_index_or}
use mathlib.Core.Option.{some}
use lib.ListN.{get_elem?}

-- an index below the length has the element that is read there
pub there : {A : Type 0} (items : List A) (i : ℕ) (d : A) → i < length items → get_elem? items i ≡ some (slice_index_or items i d)
there [] i d low = absurd (omega (arith, low))
there (x ∷ items) zero d low = refl
there (x ∷ items) (suc i) d low = there items i d (omega (arith, low))
