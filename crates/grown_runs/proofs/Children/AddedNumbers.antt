-- An index of children with one number more, which is in no chain.
use Rattle.grown_runs.proofs.Words.{◌≡◌, ℕ, zero, suc, ◌+◌, ◌<◌, ◌≤◌, List, [], ◌∷◌, ◌++◌, refl, sym, ap, ◌∙◌, subst, arith, slice_index, length-append}
use Rattle.grown_runs.proofs.Words.{IsIndex, front_in}

-- a 0 at the end is read as one past the end
index-push : (items : List ℕ) (i : ℕ) → slice_index (items ++ 0 ∷ []) i ≡ slice_index items i
index-push [] zero = refl
index-push [] (suc i) = refl
index-push (x ∷ items) zero = refl
index-push (x ∷ items) (suc i) = index-push items i

front-push : (first : List ℕ) (l : ℕ) → front_in (first ++ 0 ∷ []) l ≡ front_in first l
front-push first zero = refl
front-push first (suc parent) = index-push first parent

pub IsIndex-push :
    (nodes : ℕ) (chain : ℕ → ℕ) (first next previous : List ℕ) → IsIndex nodes chain first next previous
    → IsIndex (nodes + 1) chain (first ++ 0 ∷ []) (next ++ 0 ∷ []) (previous ++ 0 ∷ [])
IsIndex-push nodes chain first next previous x =
    let r = x.chained in
    let front_is : (l : ℕ) → front_in first l ≡ front_in (first ++ 0 ∷ []) l = λ l. sym (front-push first l) in
    let next_is : (n : ℕ) → slice_index next n ≡ slice_index (next ++ 0 ∷ []) n = λ n. sym (index-push next n) in
    let previous_is : (n : ℕ) → slice_index previous n ≡ slice_index (previous ++ 0 ∷ []) n = λ n. sym (index-push previous n) in
    record {
      firsts = length-append first (0 ∷ []) ∙ ap (λ n. n + 1) x.firsts;
      nexts = length-append next (0 ∷ []) ∙ ap (λ n. n + 1) x.nexts;
      previouses = length-append previous (0 ∷ []) ∙ ap (λ n. n + 1) x.previouses;
      some = omega arith;
      within = λ n some. omega (arith, x.within n some);
      rank = x.rank;
      chained = record {
        none = r.none;
        bottom = r.bottom;
        high = λ n. omega (arith, r.high n);
        top = λ n some. subst (λ m. (0 < m) × (x.rank n ≤ x.rank m)) (front_is (chain n)) (r.top n some);
        head = λ l some.
            let old = r.head l (omega (arith, front_is l, some)) in (
              old.0,
              ap chain (sym (front_is l)) ∙ old.1,
              sym (previous_is (front_in (first ++ 0 ∷ []) l)) ∙ ap (slice_index previous) (sym (front_is l)) ∙ old.2,
            );
        falls = λ n some. subst (λ m. x.rank m < x.rank n) (next_is n) (r.falls n some);
        after = λ n some more.
            let old = r.after n some (omega (arith, next_is n, more)) in (
              ap chain (sym (next_is n)) ∙ old.0,
              sym (previous_is (slice_index (next ++ 0 ∷ []) n)) ∙ ap (slice_index previous) (sym (next_is n)) ∙ old.1,
            );
        down = λ m n some both lower. subst (λ k. (0 < k) × (x.rank m ≤ x.rank k)) (next_is n) (r.down m n some both lower);
        back = λ n some more.
            let old = r.back n some (omega (arith, previous_is n, more)) in (
              sym (next_is (slice_index (previous ++ 0 ∷ []) n)) ∙ ap (slice_index next) (sym (previous_is n)) ∙ old.0,
              ap chain (sym (previous_is n)) ∙ old.1,
            );
        first = λ n some leads. sym (front_is (chain n)) ∙ r.first n some (previous_is n ∙ leads);
        apart = r.apart;
      };
    }
