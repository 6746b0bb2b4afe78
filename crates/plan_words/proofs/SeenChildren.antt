-- The children of a node by the pairs that a pass has seen.
use Rattle.plan_words.proofs.Words.{◌≡◌, ℕ, zero, suc, ◌+◌, ◌<◌, ◌≤◌, ◌^◌, Bool, true, false, List, [], ◌∷◌, length, refl, sym, ap, ◌∙◌, subst, ⊎_elim, arith}
use Rattle.plan_words.proofs.Words.{cond, nat_lt, slice_index, cases_lt, le-ltb, ltb-false, HasParentsBelow, sibling_chain_in, chain_of, HasFirstPairs}
use Rattle.plan_words.proofs.Words.{HasPairs, HasSeenParent, IsLawfulView, run_sizes, sees, TreeOf, parent_in, word_at-none, View}

-- a word past the end of a list is 0
index-past : (items : List ℕ) (i : ℕ) → length items ≤ i → slice_index items i ≡ 0
index-past [] i past = refl
index-past (x ∷ items) zero past = absurd (omega (arith, past))
index-past (x ∷ items) (suc i) past = index-past items i (omega (arith, past))

-- only nodes of the run are written
pub within-written : (view : View) (n : ℕ) → 2 ^ 63 ≤ sees view (TreeOf n) → n ≤ length view.run.marks
within-written view n written = ⊎_elim
    (λ (low : n < length view.run.marks + 1). omega (arith, low))
    (λ (past : length view.run.marks + 1 ≤ n).
    let none = word_at-none (run_sizes view.run) view.seen (TreeOf n) (λ within. omega (arith, past, within)) in absurd (omega (arith, written, none)))
    (cases_lt n (length view.run.marks + 1))

-- and only nodes of a list
low-written : (pairs : List ℕ) (n : ℕ) → 2 ^ 63 ≤ slice_index pairs n → n < length pairs
low-written pairs n written = ⊎_elim
    (λ (low : n < length pairs). low) (λ (past : length pairs ≤ n). absurd (omega (arith, written, index-past pairs n past))) (cases_lt n (length pairs))

-- those of all nodes are those of the first
pub HasFirstPairs-all : (view : View) (pairs : List ℕ) → HasPairs view pairs → HasFirstPairs view pairs
HasFirstPairs-all view pairs has = record { within = omega (arith, has.for_each); seen = has.seen }

-- the list has the pair of each node that is written in either
pub pair-seen : (view : View) (pairs : List ℕ) (n : ℕ) → HasFirstPairs view pairs → 2 ^ 63 ≤ sees view (TreeOf n) → slice_index pairs n ≡ sees view (TreeOf n)
pair-seen view pairs n has written = has.seen n (within-written view n written)

pub pair-kept : (view : View) (pairs : List ℕ) (n : ℕ) → HasFirstPairs view pairs → 2 ^ 63 ≤ slice_index pairs n → slice_index pairs n ≡ sees view (TreeOf n)
pair-kept view pairs n has written = has.seen n (omega (arith, low-written pairs n written, has.within))

-- ---- chains

chain-written : (n word m : ℕ) → chain_of n word ≡ suc m → (0 < n) × (2 ^ 63 ≤ word) × (parent_in word ≡ m)
chain-written zero word m e = absurd (omega (arith, e))
chain-written (suc n) word m e = by_test (nat_lt word (2 ^ 63)) refl
  where
    by_test : (b : Bool) → nat_lt word (2 ^ 63) ≡ b → (0 < suc n) × (2 ^ 63 ≤ word) × (parent_in word ≡ m)
    by_test true is = absurd (let none : 0 ≡ suc m = sym (ap (λ b. cond b 0 (parent_in word + 1)) is) ∙ e in omega (arith, none))
    by_test false is =
        let some : parent_in word + 1 ≡ suc m = sym (ap (λ b. cond b 0 (parent_in word + 1)) is) ∙ e in
        (omega arith, ltb-false word (2 ^ 63) is, omega (arith, some))

written-chain : (n word m : ℕ) → 0 < n → 2 ^ 63 ≤ word → parent_in word ≡ m → chain_of n word ≡ suc m
written-chain zero word m some written e = absurd (omega (arith, some))
written-chain (suc n) word m some written e =
    ap (λ b. cond b 0 (parent_in word + 1)) (le-ltb word (2 ^ 63) written) ∙ (omega (arith, e))

pub HasSeenParent-chain : (view : View) (pairs : List ℕ) (m n : ℕ) → HasFirstPairs view pairs → sibling_chain_in pairs n ≡ suc m → HasSeenParent view m n
HasSeenParent-chain view pairs m n has e =
    let (some, written, parent) = chain-written n (slice_index pairs n) m e in
    let same = pair-kept view pairs n has written in
    record { child = some; written = subst (λ w. 2 ^ 63 ≤ w) same written; parent = ap parent_in (sym same) ∙ parent }

pub chain-HasSeenParent : (view : View) (pairs : List ℕ) (m n : ℕ) → HasFirstPairs view pairs → HasSeenParent view m n → sibling_chain_in pairs n ≡ suc m
chain-HasSeenParent view pairs m n has seen =
    let same = sym (pair-seen view pairs n has seen.written) in
    written-chain n (slice_index pairs n) m seen.child (subst (λ w. 2 ^ 63 ≤ w) same seen.written) (ap parent_in (sym same) ∙ seen.parent)

-- ---- parents are nodes of the run

pub parent-below :
    (view : View) (pairs : List ℕ) (n : ℕ) → IsLawfulView view → HasPairs view pairs → 2 ^ 63 ≤ sees view (TreeOf n)
    → parent_in (sees view (TreeOf n)) < length pairs
parent-below view pairs n lawful has written = omega (arith, has.for_each, (lawful.pairs n written).within)

pub HasParentsBelow-seen : (view : View) (pairs : List ℕ) → IsLawfulView view → HasPairs view pairs → HasParentsBelow (length pairs) pairs
HasParentsBelow-seen view pairs lawful has n written =
    let same = pair-kept view pairs n (HasFirstPairs-all view pairs has) written in
    subst (λ w. parent_in w < length pairs) (sym same) (parent-below view pairs n lawful has (subst (λ w. 2 ^ 63 ≤ w) same written))
