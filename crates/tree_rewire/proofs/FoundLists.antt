-- Records of found nodes, and their numbers.
use Rattle.tree_rewire.proofs.Words.{◌≡◌, ◌⊎◌, ℕ, zero, suc, Bool, true, false, cond, List, [], ◌∷◌, ◌++◌, Some, map, take, drop, inl, inr, refl, sym, ap, ◌∙◌}
use Rattle.tree_rewire.proofs.Words.{subst, All, Contains, eqb, filter, option_map, slice_get, get_or_from_slice_get, slice_get-map, slice_get_within}
use Rattle.tree_rewire.proofs.Words.{Contains-after, Contains-first, numbers_of, weighed, Found, IsDistinct, AreOf, Contains-cases, Contains-none}

-- what holds of all records holds of the one that is read
pub All-at : (P : Found → Type 0) (found : List Found) (i : ℕ) (f : Found) → slice_get found i ≡ Some f → All P found → P f
All-at P found i f read all = subst P (get_or_from_slice_get found i f f read) (all i f (slice_get_within found i f read))

-- the number of the record that is read is the number there
pub number_read : (found : List Found) (i : ℕ) (f : Found) → slice_get found i ≡ Some f → slice_get (numbers_of found) i ≡ Some f.node
number_read found i f read =
    slice_get-map (λ (g : Found). g.node) found i ∙ ap (option_map (λ (g : Found). g.node)) read

-- the costs of edges change no number
pub numbers-weighed : (found : List Found) → numbers_of (weighed found) ≡ numbers_of found
numbers-weighed [] = refl
numbers-weighed (f ∷ found) = ap (λ ns. f.node ∷ ns) (numbers-weighed found)

-- while the first are mapped, the rest is as it was
pub rest_read : (f : Found → Found) (found : List Found) (i : ℕ) → slice_get (map f (take i found) ++ drop i found) i ≡ slice_get found i
rest_read f [] zero = refl
rest_read f [] (suc i) = refl
rest_read f (x ∷ found) zero = refl
rest_read f (x ∷ found) (suc i) = rest_read f found i

-- what is on a list is mapped on the list of images, and each of these is one
pub Contains-image : {Y X : Type 0} (f : Y → X) (found : List Y) (x : Y) → Contains found x → Contains (map f found) (f x)
Contains-image f [] x on = absurd (Contains-none x on)
Contains-image f (y ∷ found) x on = elim (Contains-cases y x found on) [
  | inl is ↦ subst (Contains (f y ∷ map f found)) (ap f is) (Contains-first (f y) (map f found))
  | inr more ↦ Contains-after (f y) (map f found) (f x) (Contains-image f found x more)
]

pub Contains-source : {Y X : Type 0} (f : Y → X) (found : List Y) (y : X) → Contains (map f found) y → (x : Y) × Contains found x × (f x ≡ y)
Contains-source f [] y on = absurd (Contains-none y on)
Contains-source f (x ∷ found) y on = elim (Contains-cases (f x) y (map f found) on) [
  | inl is ↦ (x, Contains-first x found, is)
  | inr more ↦ (let own = Contains-source f found y more in (own.0, Contains-after x found own.0 own.1, own.2))
]

-- what passes is kept, and what is kept passes
kept_one : (b : Bool) (y : Found) (rest : List Found) (x : Found) → (y ≡ x → b ≡ true) → (y ≡ x) ⊎ Contains rest x → Contains (cond b (y ∷ rest) rest) x
kept_one true y rest x own (inl same) = subst (Contains (y ∷ rest)) same (Contains-first y rest)
kept_one true y rest x own (inr more) = Contains-after y rest x more
kept_one false y rest x own (inl same) = (let no = own same in cc)
kept_one false y rest x own (inr more) = more

pub Contains-kept : (p : Found → Bool) (found : List Found) (x : Found) → p x ≡ true → Contains found x → Contains (filter p found) x
Contains-kept p [] x passes on = absurd (Contains-none x on)
Contains-kept p (y ∷ found) x passes on =
    kept_one (p y) y (filter p found) x (λ same. ap p same ∙ passes)
    (elim (Contains-cases y x found on) [
      | inl same ↦ inl same
      | inr more ↦ inr (Contains-kept p found x passes more)
    ])

passed_one : (b : Bool) (y : Found) (rest : List Found) (x : Found) → Contains (cond b (y ∷ rest) rest) x → ((y ≡ x) × (b ≡ true)) ⊎ Contains rest x
passed_one true y rest x on = elim (Contains-cases y x rest on) [
  | inl same ↦ inl (same, refl)
  | inr more ↦ inr more
]
passed_one false y rest x on = inr on

pub kept_passes : (p : Found → Bool) (found : List Found) (x : Found) → Contains (filter p found) x → Contains found x × (p x ≡ true)
kept_passes p [] x on = absurd (Contains-none x on)
kept_passes p (y ∷ found) x on = elim (passed_one (p y) y (filter p found) x on) [
  | inl (same, passes) ↦ (subst (Contains (y ∷ found)) same (Contains-first y found), sym (ap p same) ∙ passes)
  | inr more ↦ (let own = kept_passes p found x more in (Contains-after y found x own.0, own.1))
]

-- the costs of edges change nothing of which nodes the records are
pub AreOf-weighed : (found : List Found) (near : List ℕ) → AreOf found near → AreOf (weighed found) near
AreOf-weighed found near h =
    let same = sym (numbers-weighed found) in
    record {
      once = subst (IsDistinct eqb) same h.once;
      all = λ n on. subst (λ ns. Contains ns n) same (h.all n on);
      only = λ n on. h.only n (subst (λ ns. Contains ns n) (sym same) on);
    }
