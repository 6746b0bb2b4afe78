-- Words that ask for no command.
use Rattle.planner.proofs.Words.{◌≡◌, ℕ, ◌≤◌, None, List, [], ◌∷◌, length, map, arith, refl, command_of}

-- there are more than three of them
pub command_of-many : {X : Type 0} (f : X → List ℕ) (words : List X) → 4 ≤ length words → None ≡ command_of (map f words)
command_of-many f [] h = absurd (omega (arith, h))
command_of-many f (a ∷ []) h = absurd (omega (arith, h))
command_of-many f (a ∷ b ∷ []) h = absurd (omega (arith, h))
command_of-many f (a ∷ b ∷ c ∷ []) h = absurd (omega (arith, h))
command_of-many f (a ∷ b ∷ c ∷ d ∷ words) h = refl
