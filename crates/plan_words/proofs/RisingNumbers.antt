-- Lists of numbers that rise, by what they contain.
use Rattle.plan_words.proofs.Words.{◌≡◌, ℕ, suc, ◌<◌, Bool, true, false, cond, eqb, List, [], ◌∷◌, arith, inl, inr, refl, sym, ap, ◌∙◌, Contains, filter}
use Rattle.plan_words.proofs.Words.{AllByRecursion, IsDistinct, IsStrictlySortedBy, nat_cmp, eqb-true, below_from_sorted, sorted_tail, Contains-after}
use Rattle.plan_words.proofs.Words.{Contains-first, numbers_of, Found, Contains-cases, Contains-none}
use Rattle.std.proofs.Common.{eq-eqb}

pub eqb-swap : (m n : ℕ) → eqb m n ≡ eqb n m
eqb-swap m n = by_tests (eqb m n) (eqb n m) refl refl
  where
    by_tests : (one other : Bool) → eqb m n ≡ one → eqb n m ≡ other → one ≡ other
    by_tests true true e f = refl
    by_tests false false e f = refl
    by_tests true false e f = (let same = eq-eqb n m (sym (eqb-true m n e)) in sym same ∙ f)
    by_tests false true e f = (let same = eq-eqb m n (sym (eqb-true n m f)) in sym e ∙ same)

-- the first number is below the others
below_others : (m : ℕ) (ns : List ℕ) → IsStrictlySortedBy nat_cmp (m ∷ ns) → (n : ℕ) → Contains ns n → m < n
below_others m ns rising n (k, below, is) =
    let less = below_from_sorted (m ∷ ns) 0 (suc k) n rising (omega arith) (omega (arith, below)) in
    omega (arith, less, is)

-- lists that rise and contain the same numbers are the same
pub same_numbers : (ms ns : List ℕ) → IsStrictlySortedBy nat_cmp ms → IsStrictlySortedBy nat_cmp ns
    → ((n : ℕ) → Contains ms n → Contains ns n) → ((n : ℕ) → Contains ns n → Contains ms n) → ms ≡ ns
same_numbers [] [] one two to back = refl
same_numbers [] (n ∷ ns) one two to back = absurd (Contains-none n (back n (Contains-first n ns)))
same_numbers (m ∷ ms) [] one two to back = absurd (Contains-none m (to m (Contains-first m ms)))
same_numbers (m ∷ ms) (n ∷ ns) one two to back =
    let first : m ≡ n =
    elim (Contains-cases n m ns (to m (Contains-first m ms))) [
      | inl is ↦ sym is
      | inr later ↦ elim (Contains-cases m n ms (back n (Contains-first n ns))) [
        | inl is ↦ is
        | inr other ↦ absurd (omega (arith, below_others n ns two m later, below_others m ms one n other))
      ]
    ] in
    let rest : ms ≡ ns =
    same_numbers ms ns (sorted_tail nat_cmp m ms one) (sorted_tail nat_cmp n ns two)
    (λ k own. elim (Contains-cases n k ns (to k (Contains-after m ms k own))) [
      | inl is ↦ absurd (omega (arith, below_others m ms one k own, first, is))
      | inr there ↦ there
    ])
    (λ k own. elim (Contains-cases m k ms (back k (Contains-after n ns k own))) [
      | inl is ↦ absurd (omega (arith, below_others n ns two k own, first, is))
      | inr there ↦ there
    ]) in
    ap (λ k. k ∷ ms) first ∙ ap (λ ks. n ∷ ks) rest

-- ---- numbers of records

-- a number is that of a record
pub Contains-number : (found : List Found) (n : ℕ) → Contains (numbers_of found) n → (f : Found) × Contains found f × (f.node ≡ n)
Contains-number [] n k = absurd (Contains-none n k)
Contains-number (f ∷ found) n k =
    elim (Contains-cases f.node n (numbers_of found) k) [
      | inl is ↦ (f, Contains-first f found, is)
      | inr more ↦ (let own = Contains-number found n more in (own.0, Contains-after f found own.0 own.1, own.2))
    ]

-- what holds of the numbers of all records holds of those of fewer
fewer_numbers : (P : ℕ → Type 0) (p : Found → Bool) (found : List Found) → AllByRecursion P (numbers_of found)
    → AllByRecursion P (numbers_of (filter p found))
fewer_numbers P p [] h = h
fewer_numbers P p (f ∷ found) h = one_more (p f) h.0 (fewer_numbers P p found h.1)
  where
    one_more : (b : Bool) → P f.node → AllByRecursion P (numbers_of (filter p found))
        → AllByRecursion P (numbers_of (cond b (f ∷ filter p found) (filter p found)))
    one_more true here rest = (here, rest)
    one_more false here rest = rest

-- records with distinct numbers have distinct ones if fewer are left
pub distinct_numbers : (p : Found → Bool) (found : List Found) → IsDistinct eqb (numbers_of found) → IsDistinct eqb (numbers_of (filter p found))
unfolding IsDistinct
distinct_numbers p [] h = h
distinct_numbers p (f ∷ found) h = one_more (p f) (fewer_numbers (λ n. eqb f.node n ≡ false) p found h.0) (distinct_numbers p found h.1)
  where
    one_more : (b : Bool) → AllByRecursion (λ n. eqb f.node n ≡ false) (numbers_of (filter p found)) → IsDistinct eqb (numbers_of (filter p found))
        → IsDistinct eqb (numbers_of (cond b (f ∷ filter p found) (filter p found)))
    one_more true apart rest = (apart, rest)
    one_more false apart rest = rest
