-- Members of a list with one more in front.
use Rattle.plan_model.proofs.Words.{suc, ◌∷◌, List, arith, refl, Contains}

pub Contains-first : {A : Type 0} → (x : A) (xs : List A) → Contains (x ∷ xs) x
Contains-first x xs = (0, omega arith, refl)

pub Contains-after : {A : Type 0} → (x : A) (xs : List A) (y : A) → Contains xs y → Contains (x ∷ xs) y
Contains-after x xs y (k, l, is) = (suc k, omega (arith, l), is)
