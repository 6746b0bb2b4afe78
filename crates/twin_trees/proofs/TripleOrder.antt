-- The order of bridges: when one matches another, and when it is no worse.
use Rattle.twin_trees.proofs.Words.{◌≡◌, ℕ, ◌<◌, Bool, true, false, not, Some, arith, refl, IsMatched, Bridge}

module _ (bridge : Bridge) (total a b : ℕ) where
  -- a way that costs more is matched
  pub IsMatched-more : bridge.cost < total → IsMatched (Some bridge) total a b
  IsMatched-more more = record {
    least = omega (arith, more);
    first = λ same. absurd (omega (arith, more, same));
    second = λ same here. absurd (omega (arith, more, same));
  }

-- the negation of a test
pub false_of_not : (b : Bool) → not b ≡ true → b ≡ false
false_of_not true h = absurd cc
false_of_not false h = refl
