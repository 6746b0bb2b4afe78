-- How many of the known bytes of a source came.
use Rattle.planner.proofs.Words.{◌≡◌, ℕ, ◌+◌, Option, Some, None, List, length, length-append, ap, arith, Consumes}

-- how many are left
abbrev pub left_count : Option (List ℕ) → ℕ
left_count None = 0
left_count (Some rest) = length rest

pub came_count : (before now : Option (List ℕ)) (bytes came : List ℕ) → before ≡ Some bytes → Consumes before now came →
    length came + left_count now ≡ length bytes
came_count None now bytes came is consumed = absurd cc
came_count (Some known) None bytes came is consumed = absurd consumed
came_count (Some known) (Some rest) bytes came is consumed =
    let same : known ≡ bytes = cc in omega (arith, ap length same, ap length consumed, length-append came rest)
