-- Lists of one, three and four numbers, by their members.
use Rattle.std.proofs.Common.{◌≡◌, ℕ, List, [], ◌∷◌, length, arith, refl}

-- a list of one number
pub record One (ws : List ℕ) : Type 0 where
  pub only : ℕ
  pub are : ws ≡ only ∷ []

pub one : (ws : List ℕ) → length ws ≡ 1 → One ws
one [] h = absurd (omega arith)
one (a ∷ []) h = record { only = a; are = refl }
one (a ∷ b ∷ ws) h = absurd (omega arith)

-- a list of three numbers
pub record Three (ws : List ℕ) : Type 0 where
  pub first : ℕ
  pub second : ℕ
  pub third : ℕ
  pub are : ws ≡ first ∷ second ∷ third ∷ []

pub three : (ws : List ℕ) → length ws ≡ 3 → Three ws
three [] h = absurd (omega arith)
three (a ∷ []) h = absurd (omega arith)
three (a ∷ b ∷ []) h = absurd (omega arith)
three (a ∷ b ∷ c ∷ []) h = record { first = a; second = b; third = c; are = refl }
three (a ∷ b ∷ c ∷ d ∷ ws) h = absurd (omega arith)

-- a list of four numbers
pub record Four (ws : List ℕ) : Type 0 where
  pub first : ℕ
  pub second : ℕ
  pub third : ℕ
  pub fourth : ℕ
  pub are : ws ≡ first ∷ second ∷ third ∷ fourth ∷ []

pub four : (ws : List ℕ) → length ws ≡ 4 → Four ws
four [] h = absurd (omega arith)
four (a ∷ []) h = absurd (omega arith)
four (a ∷ b ∷ []) h = absurd (omega arith)
four (a ∷ b ∷ c ∷ []) h = absurd (omega arith)
four (a ∷ b ∷ c ∷ d ∷ []) h = record { first = a; second = b; third = c; fourth = d; are = refl }
four (a ∷ b ∷ c ∷ d ∷ e ∷ ws) h = absurd (omega arith)
