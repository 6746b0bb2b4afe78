-- A node that waits is marked, comes on the list, and goes off it.
use Rattle.plan_words.proofs.Words.{◌≡◌, ◌≢◌, ◌⊎◌, ℕ, zero, suc, ◌<◌, ◌≤◌, Bool, true, false, List, [], ◌∷◌, ◌++◌, Option, None, Some, append-nil, length, refl}
use Rattle.plan_words.proofs.Words.{sym, ap, ◌∙◌, subst, ⊎_elim, inl, inr, arith, IfSome, option_to_list, replicate, slice_index, slice_set, cases_eq, cases_lt}
use Rattle.plan_words.proofs.Words.{get_or-replicate, get_or-set_other, get_or-set_same, get_or_append_left, get_or_past, length-replicate, length-set}
use Rattle.plan_words.proofs.Words.{AreMarked, IsOn, NoneMarked, count_marked, is_marked}
use Rattle.std.proofs.lemmas.List.{length-append}

-- ---- a list with one node more

length-end : (nodes : List ℕ) (n : ℕ) → length (nodes ++ n ∷ []) ≡ suc (length nodes)
length-end nodes n = length-append nodes (n ∷ []) ∙ (omega arith)

at-front : (nodes : List ℕ) (n i : ℕ) → i < length nodes → slice_index (nodes ++ n ∷ []) i ≡ slice_index nodes i
at-front [] n i low = absurd (omega arith)
at-front (x ∷ nodes) n zero low = refl
at-front (x ∷ nodes) n (suc i) low = at-front nodes n i (omega arith)

at-end : (nodes : List ℕ) (n : ℕ) → slice_index (nodes ++ n ∷ []) (length nodes) ≡ n
at-end [] n = refl
at-end (x ∷ nodes) n = at-end nodes n

pub IsOn-before : (nodes more : List ℕ) (m : ℕ) → IsOn nodes m → IsOn (nodes ++ more) m
IsOn-before nodes more m on =
    (on.0, omega (arith, length-append nodes more, on.1), get_or_append_left nodes more 0 on.0 on.1 ∙ on.2)

pub IsOn-front : (nodes : List ℕ) (n m : ℕ) → IsOn nodes m → IsOn (nodes ++ n ∷ []) m
IsOn-front nodes n m on = (on.0, omega (arith, length-end nodes n, on.1), at-front nodes n on.0 on.1 ∙ on.2)

pub IsOn-end : (nodes : List ℕ) (n : ℕ) → IsOn (nodes ++ n ∷ []) n
IsOn-end nodes n = (length nodes, omega (arith, length-end nodes n), at-end nodes n)

pub IsOn-cases : (nodes : List ℕ) (n m : ℕ) → IsOn (nodes ++ n ∷ []) m → IsOn nodes m ⊎ (m ≡ n)
IsOn-cases nodes n m on = ⊎_elim
    (λ (low : on.0 < length nodes). inl (on.0, low, sym (at-front nodes n on.0 low) ∙ on.2))
    (λ (high : length nodes ≤ on.0).
    let last : on.0 ≡ length nodes = omega (arith, length-end nodes n, on.1) in
    inr (sym on.2 ∙ ap (slice_index (nodes ++ n ∷ [])) last ∙ at-end nodes n))
    (cases_lt on.0 (length nodes))

-- what was taken off the end was on the list, which has all others still, and is shorter
pub IsOn-popped : (before after : List ℕ) (last : Option ℕ) → before ≡ after ++ option_to_list last → IfSome last (IsOn before)
IsOn-popped before after None is = tt
IsOn-popped before after (Some n) is = subst (λ l. IsOn l n) (sym is) (IsOn-end after n)

pub IsOn-unless_popped :
    (before after : List ℕ) (last : Option ℕ) → before ≡ after ++ option_to_list last → (m : ℕ) → IsOn before m → IsOn after m ⊎ (last ≡ Some m)
IsOn-unless_popped before after None is m on = inl (subst (λ l. IsOn l m) (is ∙ append-nil after) on)
IsOn-unless_popped before after (Some n) is m on = ⊎_elim
    (λ (stays : IsOn after m). inl stays)
    (λ (same : m ≡ n). inr (ap Some (sym same)))
    (IsOn-cases after n m (subst (λ l. IsOn l m) is on))

pub shorter-popped :
    (before after : List ℕ) (last : Option ℕ) → before ≡ after ++ option_to_list last → IfSome last (λ _. length after < length before)
shorter-popped before after None is = tt
shorter-popped before after (Some n) is = omega (arith, ap (λ l. length l) is, length-end after n)

-- ---- counting marks

count-marked :
    (marked : List Bool) (n : ℕ) → n < length marked → is_marked marked n ≡ false → count_marked (slice_set marked n true) ≡ suc (count_marked marked)
count-marked [] n low free = absurd (omega arith)
count-marked (true ∷ marked) zero low free = cc
count-marked (false ∷ marked) zero low free = refl
count-marked (true ∷ marked) (suc n) low free = ap suc (count-marked marked n (omega arith) free)
count-marked (false ∷ marked) (suc n) low free = count-marked marked n (omega arith) free

count-unmarked :
    (marked : List Bool) (n : ℕ) → n < length marked → is_marked marked n ≡ true → count_marked marked ≡ suc (count_marked (slice_set marked n false))
count-unmarked [] n low on = absurd (omega arith)
count-unmarked (true ∷ marked) zero low on = refl
count-unmarked (false ∷ marked) zero low on = cc
count-unmarked (true ∷ marked) (suc n) low on = ap suc (count-unmarked marked n (omega arith) on)
count-unmarked (false ∷ marked) (suc n) low on = count-unmarked marked n (omega arith) on

count-within : (marked : List Bool) → count_marked marked ≤ length marked
count-within [] = omega arith
count-within (true ∷ marked) = let rest = count-within marked in omega arith
count-within (false ∷ marked) = let rest = count-within marked in omega arith

-- who is marked has a mark
marked-low : (marked : List Bool) (n : ℕ) → is_marked marked n ≡ true → n < length marked
marked-low [] n on = cc
marked-low (mark ∷ marked) zero on = omega arith
marked-low (mark ∷ marked) (suc n) on = let rest = marked-low marked n on in omega arith

mark-set : (marked : List Bool) (n : ℕ) (b : Bool) → n < length marked → is_marked (slice_set marked n b) n ≡ b
mark-set marked n b low = get_or-set_same marked n b false low

mark-else : (marked : List Bool) (n m : ℕ) (b : Bool) → m ≢ n → is_marked (slice_set marked n b) m ≡ is_marked marked m
mark-else marked n m b apart = get_or-set_other marked n m b false apart

-- ---- coming and going

-- a marked node that is the last on the list goes off it, with its mark
pub AreMarked-pop :
    (nodes : List ℕ) (marked : List Bool) (n : ℕ) → AreMarked (nodes ++ n ∷ []) marked → AreMarked nodes (slice_set marked n false) × (n < length marked)
AreMarked-pop nodes marked n are =
    let last : length nodes < length (nodes ++ n ∷ []) = omega (arith, length-end nodes n) in
    let on : is_marked marked n ≡ true = ap (is_marked marked) (sym (at-end nodes n)) ∙ are.each (length nodes) last in
    let low = marked-low marked n on in
    let other : (i : ℕ) → i < length nodes → slice_index nodes i ≢ n = λ i here e.
    let same : i ≡ length nodes = are.once i (length nodes) (omega (arith, length-end nodes n, here)) last
    (at-front nodes n i here ∙ e ∙ sym (at-end nodes n)) in
    absurd (omega (arith, same, here)) in (
      record {
        each = λ i here.
            mark-else marked n (slice_index nodes i) false (other i here) ∙ ap (is_marked marked) (sym (at-front nodes n i here))
            ∙ are.each i (omega (arith, length-end nodes n, here));
        only = λ m marks. ⊎_elim
            (λ (e : m ≡ n). absurd (let off = ap (is_marked (slice_set marked n false)) e ∙ mark-set marked n false low in cc))
            (λ (apart : m ≢ n). ⊎_elim (λ (is_on : IsOn nodes m). is_on) (λ (e : m ≡ n). absurd (apart e))
            (IsOn-cases nodes n m (are.only m (sym (mark-else marked n m false apart) ∙ marks))))
            (cases_eq m n);
        once = λ i j first second same.
            are.once i j (omega (arith, length-end nodes n, first)) (omega (arith, length-end nodes n, second))
            (at-front nodes n i first ∙ same ∙ sym (at-front nodes n j second));
        count = omega (arith, length-end nodes n, are.count, count-unmarked marked n low on);
      },
      low,
    )

-- a node that is not marked comes on the list, and is marked; there is room for it
pub AreMarked-push :
    (nodes : List ℕ) (marked : List Bool) (n : ℕ) → AreMarked nodes marked → n < length marked → is_marked marked n ≡ false
    → AreMarked (nodes ++ n ∷ []) (slice_set marked n true)
AreMarked-push nodes marked n are low free =
    let other : (i : ℕ) → i < length nodes
    → slice_index nodes i ≢ n = λ i here e. absurd (let on = sym (are.each i here) ∙ ap (is_marked marked) e ∙ free in cc) in
    let end : (i : ℕ) → i < length (nodes ++ n ∷ []) → length nodes ≤ i → i ≡ length nodes = λ i here past. omega (arith, length-end nodes n, here, past) in
    let last : (i : ℕ) → i ≡ length nodes → slice_index (nodes ++ n ∷ []) i ≡ n = λ i e. ap (slice_index (nodes ++ n ∷ [])) e ∙ at-end nodes n in
    record {
      each = λ i here. ⊎_elim
          (λ (before : i < length nodes).
          ap (is_marked (slice_set marked n true)) (at-front nodes n i before) ∙ mark-else marked n (slice_index nodes i) true (other i before)
          ∙ are.each i before)
          (λ (past : length nodes ≤ i). ap (is_marked (slice_set marked n true)) (last i (end i here past)) ∙ mark-set marked n true low)
          (cases_lt i (length nodes));
      only = λ m marks. ⊎_elim
          (λ (e : m ≡ n). subst (IsOn (nodes ++ n ∷ [])) (sym e) (IsOn-end nodes n))
          (λ (apart : m ≢ n). IsOn-front nodes n m (are.only m (sym (mark-else marked n m true apart) ∙ marks)))
          (cases_eq m n);
      once = λ i j first second same. ⊎_elim
          (λ (i_before : i < length nodes). ⊎_elim
          (λ (j_before : j < length nodes). are.once i j i_before j_before (sym (at-front nodes n i i_before) ∙ same ∙ at-front nodes n j j_before))
          (λ (j_past : length nodes ≤ j). absurd (other i i_before (sym (at-front nodes n i i_before) ∙ same ∙ last j (end j second j_past))))
          (cases_lt j (length nodes)))
          (λ (i_past : length nodes ≤ i). ⊎_elim
          (λ (j_before : j < length nodes). absurd (other j j_before (sym (at-front nodes n j j_before) ∙ sym same ∙ last i (end i first i_past))))
          (λ (j_past : length nodes ≤ j). end i first i_past ∙ sym (end j second j_past))
          (cases_lt j (length nodes)))
          (cases_lt i (length nodes));
      count = length-end nodes n ∙ ap suc are.count ∙ sym (count-marked marked n low free);
    }

pub room-push :
    (nodes : List ℕ) (marked : List Bool) (n : ℕ) → AreMarked nodes marked → n < length marked → is_marked marked n ≡ false → length nodes < length marked
room-push nodes marked n are low free =
    omega (arith, are.count, count-marked marked n low free, count-within (slice_set marked n true), length-set marked n true)

-- ---- at the start and at the end

-- at the start no node is marked
pub NoneMarked-start : (nodes : ℕ) → NoneMarked (replicate nodes false)
NoneMarked-start nodes n = ⊎_elim
    (λ (low : n < nodes). get_or-replicate nodes n false false low)
    (λ (high : nodes ≤ n). get_or_past (replicate nodes false) n false (omega (arith, length-replicate nodes false, high)))
    (cases_lt n nodes)

-- no node on an empty list is marked
pub AreMarked-none : (marked : List Bool) → NoneMarked marked → AreMarked [] marked
AreMarked-none marked none = record {
  each = λ i low. absurd (omega (arith, low));
  only = λ n on. absurd (let off = sym on ∙ none n in cc);
  once = λ i j low more same. absurd (omega (arith, low));
  count = sym (count_none marked none);
}
  where
    count_none : (marked : List Bool) → NoneMarked marked → count_marked marked ≡ 0
    count_none [] none = refl
    count_none (true ∷ marked) none = (let off = none 0 in cc)
    count_none (false ∷ marked) none = count_none marked (λ n. none (suc n))

-- so there are never more on the list than there may be
pub few-marked : (nodes : List ℕ) (marked : List Bool) → AreMarked nodes marked → length nodes ≤ length marked
few-marked nodes marked are = omega (arith, are.count, count-within marked)
