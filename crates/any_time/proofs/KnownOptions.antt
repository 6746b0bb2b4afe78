-- What is there is known by what is said of an option.
use Rattle.std.proofs.Common.{◌≡◌, Option, Some, None, IfSome, IsSome, IsSomeAnd, refl, subst}

module _ {X : Type 0} where
  pub some_is : (a b : X) → Some a ≡ Some b → a ≡ b
  some_is a b e = cc

  pub none_is : (a : X) → None ≡ Some a → ⊥
  none_is a e = cc

  -- what is said of it, if it is there
  pub held : (P : X → Type 0) (o : Option X) (x : X) → o ≡ Some x → IfSome o P → P x
  held P None x e h = absurd (none_is x e)
  held P (Some y) x e h = subst P (some_is y x e) h

  pub there_some : (o : Option X) → IsSome o → (x : X) × (o ≡ Some x)
  there_some None here = cc
  there_some (Some x) here = (x, refl)

  -- what is said of it, whatever it is
  pub if_there : (P : X → Type 0) (o : Option X) → ((x : X) → o ≡ Some x → P x) → IfSome o P
  if_there P None each = tt
  if_there P (Some x) each = each x refl

  -- it is there, and has what is said
  pub record There (P : X → Type 0) (o : Option X) : Type 0 where
    pub value : X
    pub is : o ≡ Some value
    pub has : P value

  pub there : (P : X → Type 0) (o : Option X) → IsSomeAnd o P → There P o
  there P None h = absurd h
  there P (Some x) h = record { value = x; is = refl; has = h }

  -- two of them, of which something is said together
  pub between : (P : X → X → Type 0) (one other : Option X) (x : X) → one ≡ Some x → IsSomeAnd one (λ a. IsSomeAnd other (P a)) → There (P x) other
  between P None other x e h = absurd h
  between P (Some y) other x e h = there (P x) other (subst (λ a. IsSomeAnd other (P a)) (some_is y x e) h)
