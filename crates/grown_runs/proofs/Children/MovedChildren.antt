-- A node goes out of its chain of children, and comes to the front of another.
use Rattle.grown_runs.proofs.Words.{◌≡◌, ◌≢◌, ℕ, zero, suc, ◌<◌, ◌≤◌, List, [], ◌∷◌, length, refl, sym, ap, ◌∙◌, subst, ⊎_elim, arith, le_refl, ◌==◌, Bool}
use Rattle.grown_runs.proofs.Words.{cond, slice_index, slice_set, cases_eq, ne_eqb, get_or-set_other, get_or-set_same, length-set, AreChained, HasInChain}
use Rattle.grown_runs.proofs.Words.{IsIndex, MovesNode, OnlyMoves, firsts_of, front_in, get_or, map, map-set, set-get_or}
use Rattle.grown_runs.proofs.Words.{get_or-map, get_or_default, ChildIndex, Links}
use Rattle.std.proofs.Common.{eq-eqb}

-- the node c has gone out of its chain
pub record IsTakenOut (chain front next previous new_chain new_front new_next new_previous : ℕ → ℕ) (c : ℕ) : Type 0 where
  pub chain_here : new_chain c ≡ 0
  pub chain_else : (j : ℕ) → j ≢ c → new_chain j ≡ chain j
  pub front_head : previous c ≡ 0 → new_front (chain c) ≡ next c
  pub front_keep : 0 < previous c → new_front (chain c) ≡ front (chain c)
  pub front_else : (l : ℕ) → l ≢ chain c → new_front l ≡ front l
  pub next_here : new_next (previous c) ≡ next c
  pub next_else : (j : ℕ) → j ≢ previous c → new_next j ≡ next j
  pub previous_here : new_previous (next c) ≡ previous c
  pub previous_else : (j : ℕ) → j ≢ next c → new_previous j ≡ previous j

-- what lies below c lies below the one after it
below_it : (n : ℕ) (chain front next previous rank : ℕ → ℕ) (j c : ℕ) → AreChained n chain front next previous rank → 0 < chain c → chain j ≡ chain c
    → j ≢ c → rank j ≤ rank c → (0 < next c) × (rank j ≤ rank (next c))
below_it n chain front next previous rank j c r some_row same other below =
    let apart : rank j ≢ rank c = λ e. other (r.apart j c (omega arith) same e) in
    r.down j c some_row same (omega arith)

pub AreChained-taken_out : (n : ℕ) (chain front next previous new_chain new_front new_next new_previous rank : ℕ → ℕ) (c : ℕ)
    → AreChained n chain front next previous rank → 0 < chain c → IsTakenOut chain front next previous new_chain new_front new_next new_previous c
    → AreChained n new_chain new_front new_next new_previous rank
AreChained-taken_out n chain front next previous new_chain new_front new_next new_previous rank c r some_row m =
    let alive : (j : ℕ) → 0 < new_chain j → j ≢ c = λ j h e. let gone : new_chain j ≡ 0 = ap new_chain e ∙ m.chain_here in absurd (omega arith) in
    let same : (j : ℕ) → 0 < new_chain j → new_chain j ≡ chain j = λ j h. m.chain_else j (alive j h) in
    let was : (j : ℕ) → 0 < new_chain j → 0 < chain j = λ j h. subst (λ (y : ℕ). 0 < y) (same j h) h in
    let some_node : (j : ℕ) → 0 < chain j
    → 0 < j = λ j h. ⊎_elim (λ (e : j ≡ 0). absurd (let gone : chain j ≡ 0 = ap chain e ∙ r.none in omega arith)) (λ (z : j ≢ 0). omega arith)
    (cases_eq j 0) in
    let kept : (j : ℕ) → j ≢ c → 0 < chain j → 0 < new_chain j = λ j z h. subst (λ (y : ℕ). 0 < y) (sym (m.chain_else j z)) h in
    let next_row : 0 < next c → (chain (next c) ≡ chain c) × (previous (next c) ≡ c) = λ h. r.after c some_row h in
    let next_apart : next c ≢ c = λ e. let lower : rank (next c) < rank c = r.falls c some_row in
    absurd (let eq : rank (next c) ≡ rank c = ap rank e in omega arith) in
    let previous_row : 0 < previous c → (next (previous c) ≡ c) × (chain (previous c) ≡ chain c) = λ h. r.back c some_row h in
    let previous_above : 0 < previous c → rank c < rank (previous c) = λ h. let row = previous_row h in
    subst (λ (y : ℕ). rank y < rank (previous c)) row.0 (r.falls (previous c) (omega arith)) in
    let previous_apart : previous c ≢ c = λ e. ⊎_elim
    (λ (z : previous c ≡ 0). absurd (let here : chain c ≡ 0 = ap chain (sym e ∙ z) ∙ r.none in omega arith))
    (λ (z : previous c ≢ 0). absurd (let eq : rank (previous c) ≡ rank c = ap rank e in omega (arith, previous_above (omega arith))))
    (cases_eq (previous c) 0) in
    record {
      none = ⊎_elim (λ (e : 0 ≡ c). ap new_chain e ∙ m.chain_here) (λ (z : 0 ≢ c). m.chain_else 0 z ∙ r.none) (cases_eq 0 c);
      bottom = r.bottom;
      high = λ j. ⊎_elim (λ (e : j ≡ c). let gone : new_chain j ≡ 0 = ap new_chain e ∙ m.chain_here in omega arith)
          (λ (z : j ≢ c). subst (λ (y : ℕ). y ≤ n) (sym (m.chain_else j z)) (r.high j)) (cases_eq j c);
      top = λ j h.
          let to : new_front (new_chain j) ≡ new_front (chain j) = ap new_front (same j h) in
          let old : (0 < front (chain j)) × (rank j ≤ rank (front (chain j))) = r.top j (was j h) in
          ⊎_elim
          (λ (e : chain j ≡ chain c). ⊎_elim
          (λ (z : previous c ≡ 0).
          let at_top : rank j ≤ rank c = subst (λ (y : ℕ). rank j ≤ rank y) (ap front e ∙ r.first c some_row z) old.1 in
          subst (λ (y : ℕ). (0 < y) × (rank j ≤ rank y)) (sym (to ∙ ap new_front e ∙ m.front_head z))
          (below_it n chain front next previous rank j c r some_row e (alive j h) at_top))
          (λ (z : previous c ≢ 0). subst (λ (y : ℕ). (0 < y) × (rank j ≤ rank y))
          (sym (to ∙ ap new_front e ∙ m.front_keep (omega arith) ∙ ap front (sym e))) old)
          (cases_eq (previous c) 0))
          (λ (z : chain j ≢ chain c). subst (λ (y : ℕ). (0 < y) × (rank j ≤ rank y)) (sym (to ∙ m.front_else (chain j) z)) old)
          (cases_eq (chain j) (chain c));
      head = λ l h.
          let stays : new_front l ≡ front l → (l ≡ chain c → 0 < previous c) → (0 < l) × (new_chain (new_front l) ≡ l)
          × (new_previous (new_front l) ≡ 0) = λ e high.
          let old : (0 < l) × (chain (front l) ≡ l) × (previous (front l) ≡ 0) = r.head l (subst (λ (y : ℕ). 0 < y) e h) in
          let not_c : front l ≢ c = λ f. let z : previous c ≡ 0 = ap previous (sym f) ∙ old.2 in
          absurd (let p : 0 < previous c = high (sym old.1 ∙ ap chain f) in omega arith) in
          let not_next : front l ≢ next c = λ f. let some_next : 0 < next c = subst (λ (y : ℕ). 0 < y) (e ∙ f) h in
          let back : c ≡ 0 = sym (next_row some_next).1 ∙ ap previous (sym f) ∙ old.2 in
          absurd (let here : chain c ≡ 0 = ap chain back ∙ r.none in omega arith) in
          (old.0, ap new_chain e ∙ m.chain_else (front l) not_c ∙ old.1, ap new_previous e ∙ m.previous_else (front l) not_next ∙ old.2) in
          ⊎_elim
          (λ (e : l ≡ chain c). ⊎_elim
          (λ (z : previous c ≡ 0).
          let to : new_front l ≡ next c = ap new_front e ∙ m.front_head z in
          let some_next : 0 < next c = subst (λ (y : ℕ). 0 < y) to h in
          (omega arith, ap new_chain to ∙ m.chain_else (next c) next_apart ∙ (next_row some_next).0 ∙ sym e, ap new_previous to ∙ m.previous_here ∙ z))
          (λ (z : previous c ≢ 0). stays (ap new_front e ∙ m.front_keep (omega arith) ∙ ap front (sym e)) (λ f. omega arith))
          (cases_eq (previous c) 0))
          (λ (z : l ≢ chain c). stays (m.front_else l z) (λ f. absurd (z f)))
          (cases_eq l (chain c));
      falls = λ k h. ⊎_elim
          (λ (e : k ≡ previous c).
          let some_previous : 0 < previous c = subst (λ (y : ℕ). 0 < y) e (some_node k (was k h)) in
          let low : rank (next c) < rank c = r.falls c some_row in
          let high : rank c < rank (previous c) = previous_above some_previous in
          subst (λ (y : ℕ). rank (new_next y) < rank y) (sym e) (subst (λ (y : ℕ). rank y < rank (previous c)) (sym m.next_here) (omega arith)))
          (λ (z : k ≢ previous c). subst (λ (y : ℕ). rank y < rank k) (sym (m.next_else k z)) (r.falls k (was k h)))
          (cases_eq k (previous c));
      after = λ k h some_next. ⊎_elim
          (λ (e : k ≡ previous c).
          let some_previous : 0 < previous c = subst (λ (y : ℕ). 0 < y) e (some_node k (was k h)) in
          let to : new_next k ≡ next c = ap new_next e ∙ m.next_here in
          let old = next_row (subst (λ (y : ℕ). 0 < y) to some_next) in (
            ap new_chain to ∙ m.chain_else (next c) next_apart ∙ old.0 ∙ sym (previous_row some_previous).1 ∙ ap chain (sym e)
                ∙ sym (same k h),
            ap new_previous to ∙ m.previous_here ∙ sym e,
          ))
          (λ (z : k ≢ previous c).
          let to : new_next k ≡ next k = m.next_else k z in
          let old : (chain (next k) ≡ chain k) × (previous (next k) ≡ k) = r.after k (was k h) (subst (λ (y : ℕ). 0 < y) to some_next) in
          let not_c : next k ≢ c = λ f. z (sym old.1 ∙ ap previous f) in
          let not_next : next k ≢ next c = λ f. let e : k ≡ c = sym old.1 ∙ ap previous f
          ∙ (next_row (subst (λ (y : ℕ). 0 < y) (to ∙ f) some_next)).1 in absurd (alive k h e) in
          (ap new_chain to ∙ m.chain_else (next k) not_c ∙ old.0 ∙ sym (same k h), ap new_previous to ∙ m.previous_else (next k) not_next ∙ old.1))
          (cases_eq k (previous c));
      down = λ j k h row low.
          let hj : 0 < new_chain j = subst (λ (y : ℕ). 0 < y) (sym row) h in
          let old_row : chain j ≡ chain k = sym (same j hj) ∙ row ∙ same k h in
          let old : (0 < next k) × (rank j ≤ rank (next k)) = r.down j k (was k h) old_row low in
          ⊎_elim
          (λ (e : k ≡ previous c).
          let some_previous : 0 < previous c = subst (λ (y : ℕ). 0 < y) e (some_node k (was k h)) in
          let is_c : next k ≡ c = ap next e ∙ (previous_row some_previous).0 in
          let row_c : chain j ≡ chain c = old_row ∙ ap chain e ∙ (previous_row some_previous).1 in
          subst (λ (y : ℕ). (0 < y) × (rank j ≤ rank y)) (sym (ap new_next e ∙ m.next_here))
          (below_it n chain front next previous rank j c r some_row row_c (alive j hj) (subst (λ (y : ℕ). rank j ≤ rank y) is_c old.1)))
          (λ (z : k ≢ previous c). subst (λ (y : ℕ). (0 < y) × (rank j ≤ rank y)) (sym (m.next_else k z)) old)
          (cases_eq k (previous c));
      back = λ j h some_previous. ⊎_elim
          (λ (e : j ≡ next c).
          let to : new_previous j ≡ previous c = ap new_previous e ∙ m.previous_here in
          let some : 0 < previous c = subst (λ (y : ℕ). 0 < y) to some_previous in
          let some_next : 0 < next c = subst (λ (y : ℕ). 0 < y) e (some_node j (was j h)) in (
            ap new_next to ∙ m.next_here ∙ sym e,
            ap new_chain to ∙ m.chain_else (previous c) previous_apart ∙ (previous_row some).1
                ∙ sym (next_row some_next).0 ∙ ap chain (sym e) ∙ sym (same j h),
          ))
          (λ (z : j ≢ next c).
          let to : new_previous j ≡ previous j = m.previous_else j z in
          let old : (next (previous j) ≡ j) × (chain (previous j) ≡ chain j) = r.back j (was j h) (subst (λ (y : ℕ). 0 < y) to some_previous) in
          let not_previous : previous j ≢ previous c = λ f. let e : j ≡ c = sym old.0 ∙ ap next f
          ∙ (previous_row (subst (λ (y : ℕ). 0 < y) (to ∙ f) some_previous)).0 in absurd (alive j h e) in
          let not_c : previous j ≢ c = λ f. z (sym old.0 ∙ ap next f) in
          (ap new_next to ∙ m.next_else (previous j) not_previous ∙ old.0, ap new_chain to ∙ m.chain_else (previous j) not_c ∙ old.1 ∙ sym (same j h)))
          (cases_eq j (next c));
      first = λ j h leads. ⊎_elim
          (λ (e : j ≡ next c).
          let z : previous c ≡ 0 = sym (ap new_previous e ∙ m.previous_here) ∙ leads in
          let some_next : 0 < next c = subst (λ (y : ℕ). 0 < y) e (some_node j (was j h)) in
          let row : new_chain j ≡ chain c = same j h ∙ ap chain e ∙ (next_row some_next).0 in
          ap new_front row ∙ m.front_head z ∙ sym e)
          (λ (z : j ≢ next c).
          let old : front (chain j) ≡ j = r.first j (was j h) (sym (m.previous_else j z) ∙ leads) in
          let to : new_front (new_chain j) ≡ new_front (chain j) = ap new_front (same j h) in
          ⊎_elim
          (λ (e : chain j ≡ chain c). ⊎_elim
          (λ (y : previous c ≡ 0). absurd (alive j h (sym old ∙ ap front e ∙ r.first c some_row y)))
          (λ (y : previous c ≢ 0). to ∙ ap new_front e ∙ m.front_keep (omega arith) ∙ ap front (sym e) ∙ old)
          (cases_eq (previous c) 0))
          (λ (y : chain j ≢ chain c). to ∙ m.front_else (chain j) y ∙ old)
          (cases_eq (chain j) (chain c)))
          (cases_eq j (next c));
      apart = λ j k h row level. let hk : 0 < new_chain k = subst (λ (y : ℕ). 0 < y) row h in r.apart j k (was j h) (sym (same j h) ∙ row ∙ same k hk) level;
    }

-- the node c has come to the front of chain l
pub record IsPutIn (chain front next previous rank new_chain new_front new_next new_previous new_rank : ℕ → ℕ) (c l : ℕ) : Type 0 where
  pub chain_here : new_chain c ≡ l
  pub chain_else : (j : ℕ) → j ≢ c → new_chain j ≡ chain j
  pub front_here : new_front l ≡ c
  pub front_else : (m : ℕ) → m ≢ l → new_front m ≡ front m
  pub next_here : new_next c ≡ front l
  pub next_else : (j : ℕ) → j ≢ c → new_next j ≡ next j
  pub previous_here : new_previous c ≡ 0
  pub previous_front : 0 < front l → new_previous (front l) ≡ c
  pub previous_else : (j : ℕ) → j ≢ c → j ≢ front l → new_previous j ≡ previous j
  pub rank_here : new_rank c ≡ suc (rank (front l))
  pub rank_else : (j : ℕ) → j ≢ c → new_rank j ≡ rank j

pub AreChained-put_in : (n : ℕ) (chain front next previous rank new_chain new_front new_next new_previous new_rank : ℕ → ℕ) (c l : ℕ)
    → AreChained n chain front next previous rank → chain c ≡ 0 → 0 < c → 0 < l → l ≤ n
    → IsPutIn chain front next previous rank new_chain new_front new_next new_previous new_rank c l
    → AreChained n new_chain new_front new_next new_previous new_rank
AreChained-put_in n chain front next previous rank new_chain new_front new_next new_previous new_rank c l r free some_c some_l in_n m =
    let some_node : (j : ℕ) → 0 < chain j
    → 0 < j = λ j h. ⊎_elim (λ (e : j ≡ 0). absurd (let gone : chain j ≡ 0 = ap chain e ∙ r.none in omega arith)) (λ (z : j ≢ 0). omega arith)
    (cases_eq j 0) in
    let other : (j : ℕ) → 0 < chain j → j ≢ c = λ j h e. let gone : chain j ≡ 0 = ap chain e ∙ free in absurd (omega arith) in
    let was : (j : ℕ) → j ≢ c → 0 < new_chain j → 0 < chain j = λ j z h. subst (λ (y : ℕ). 0 < y) (m.chain_else j z) h in
    let head : 0 < front l → (chain (front l) ≡ l) × (previous (front l) ≡ 0) = λ h. let k = r.head l h in (k.1, k.2) in
    let head_apart : front l ≢ c = λ e. let k = head (omega arith) in absurd (let gone : chain (front l) ≡ 0 = ap chain e ∙ free in omega arith) in
    let head_rank : new_rank (front l) ≡ rank (front l) = m.rank_else (front l) head_apart in
    record {
      none = m.chain_else 0 (omega arith) ∙ r.none;
      bottom = m.rank_else 0 (omega arith) ∙ r.bottom;
      high = λ j. ⊎_elim (λ (e : j ≡ c). subst (λ (y : ℕ). y ≤ n) (sym (ap new_chain e ∙ m.chain_here)) in_n)
          (λ (z : j ≢ c). subst (λ (y : ℕ). y ≤ n) (sym (m.chain_else j z)) (r.high j)) (cases_eq j c);
      top = λ j h. ⊎_elim
          (λ (e : j ≡ c).
          let to : new_front (new_chain j) ≡ c = ap new_front (ap new_chain e ∙ m.chain_here) ∙ m.front_here in
          subst (λ (y : ℕ). (0 < y) × (new_rank j ≤ new_rank y)) (sym to) (some_c, subst (λ (y : ℕ). new_rank y ≤ new_rank c) (sym e) (le_refl (new_rank c))))
          (λ (z : j ≢ c).
          let old : (0 < front (chain j)) × (rank j ≤ rank (front (chain j))) = r.top j (was j z h) in
          let same : new_rank j ≡ rank j = m.rank_else j z in
          let to : new_front (new_chain j) ≡ new_front (chain j) = ap new_front (m.chain_else j z) in
          ⊎_elim
          (λ (e : chain j ≡ l).
          let at_front : rank j ≤ rank (front l) = subst (λ (y : ℕ). rank j ≤ rank (front y)) e old.1 in
          let here : new_rank c ≡ suc (rank (front l)) = m.rank_here in
          subst (λ (y : ℕ). (0 < y) × (new_rank j ≤ new_rank y)) (sym (to ∙ ap new_front e ∙ m.front_here)) (some_c, omega arith))
          (λ (y : chain j ≢ l).
          let k : (0 < chain j) × (chain (front (chain j)) ≡ chain j) × (previous (front (chain j)) ≡ 0) = r.head (chain j) old.0 in
          let level : new_rank (front (chain j)) ≡ rank (front (chain j)) = m.rank_else (front (chain j)) (other (front (chain j)) (omega arith)) in
          subst (λ (x : ℕ). (0 < x) × (new_rank j ≤ new_rank x)) (sym (to ∙ m.front_else (chain j) y)) (old.0, omega arith))
          (cases_eq (chain j) l))
          (cases_eq j c);
      head = λ k h. ⊎_elim
          (λ (e : k ≡ l).
          let to : new_front k ≡ c = ap new_front e ∙ m.front_here in
          (omega arith, ap new_chain to ∙ m.chain_here ∙ sym e, ap new_previous to ∙ m.previous_here))
          (λ (z : k ≢ l).
          let to : new_front k ≡ front k = m.front_else k z in
          let some_front : 0 < front k = subst (λ (y : ℕ). 0 < y) to h in
          let old : (0 < k) × (chain (front k) ≡ k) × (previous (front k) ≡ 0) = r.head k some_front in
          let not_c : front k ≢ c = other (front k) (omega arith) in
          let not_head : front k ≢ front l = λ f. z (sym old.1 ∙ ap chain f ∙ (head (omega arith)).0) in
          (old.0, ap new_chain to ∙ m.chain_else (front k) not_c ∙ old.1, ap new_previous to ∙ m.previous_else (front k) not_c not_head ∙ old.2))
          (cases_eq k l);
      falls = λ k h. ⊎_elim
          (λ (e : k ≡ c).
          let here : new_rank c ≡ suc (rank (front l)) = m.rank_here in
          subst (λ (y : ℕ). new_rank (new_next y) < new_rank y) (sym e) (subst (λ (y : ℕ). new_rank y < new_rank c) (sym m.next_here) (omega arith)))
          (λ (z : k ≢ c).
          let low : rank (next k) < rank k = r.falls k (was k z h) in
          let same : new_rank k ≡ rank k = m.rank_else k z in
          let not_c : next k ≢ c = λ f. let a = r.after k (was k z h) (omega arith) in
          absurd (let gone : chain (next k) ≡ 0 = ap chain f ∙ free in let some : 0 < chain k = was k z h in omega arith) in
          let level : new_rank (next k) ≡ rank (next k) = m.rank_else (next k) not_c in
          subst (λ (y : ℕ). new_rank y < new_rank k) (sym (m.next_else k z)) (omega arith))
          (cases_eq k c);
      after = λ k h some_next. ⊎_elim
          (λ (e : k ≡ c).
          let to : new_next k ≡ front l = ap new_next e ∙ m.next_here in
          let some_front : 0 < front l = subst (λ (y : ℕ). 0 < y) to some_next in (
            ap new_chain to ∙ m.chain_else (front l) head_apart ∙ (head some_front).0 ∙ sym (ap new_chain e ∙ m.chain_here),
            ap new_previous to
                ∙ m.previous_front some_front ∙ sym e,
          ))
          (λ (z : k ≢ c).
          let to : new_next k ≡ next k = m.next_else k z in
          let row : 0 < chain k = was k z h in
          let old : (chain (next k) ≡ chain k) × (previous (next k) ≡ k) = r.after k row (subst (λ (y : ℕ). 0 < y) to some_next) in
          let not_c : next k ≢ c = other (next k) (omega arith) in
          let some : 0 < next k = subst (λ (y : ℕ). 0 < y) to some_next in
          let not_head : next k ≢ front l = λ f. let gone : k ≡ 0 = sym old.1 ∙ ap previous f ∙ (head (omega arith)).1 in
          absurd (let p : 0 < k = some_node k row in omega arith) in (
            ap new_chain to ∙ m.chain_else (next k) not_c ∙ old.0 ∙ sym (m.chain_else k z),
            ap new_previous to
                ∙ m.previous_else (next k) not_c not_head ∙ old.1,
          ))
          (cases_eq k c);
      down = λ j k h row low. ⊎_elim
          (λ (e : k ≡ c).
          let not_c : j ≢ c = λ f. absurd (let eq : new_rank j ≡ new_rank k = ap new_rank (f ∙ sym e) in omega arith) in
          let in_l : chain j ≡ l = sym (m.chain_else j not_c) ∙ row ∙ ap new_chain e ∙ m.chain_here in
          let old : (0 < front (chain j)) × (rank j ≤ rank (front (chain j))) = r.top j (omega arith) in
          let level : new_rank j ≡ rank j = m.rank_else j not_c in
          let head_level : (0 < front l) × (rank j ≤ rank (front l)) = subst (λ (y : ℕ). (0 < front y) × (rank j ≤ rank (front y))) in_l old in
          subst (λ (y : ℕ). (0 < y) × (new_rank j ≤ new_rank y)) (sym (ap new_next e ∙ m.next_here)) (head_level.0, omega arith))
          (λ (z : k ≢ c).
          let some : 0 < chain k = was k z h in
          let same : new_rank k ≡ rank k = m.rank_else k z in
          ⊎_elim
          (λ (f : j ≡ c).
          let in_l : chain k ≡ l = sym (m.chain_else k z) ∙ sym row ∙ ap new_chain f ∙ m.chain_here in
          let old : (0 < front l) × (rank k ≤ rank (front l)) = subst (λ (y : ℕ). (0 < front y) × (rank k ≤ rank (front y))) in_l (r.top k some) in
          absurd (let here : new_rank j ≡ suc (rank (front l)) = ap new_rank f ∙ m.rank_here in omega arith))
          (λ (y : j ≢ c).
          let level : new_rank j ≡ rank j = m.rank_else j y in
          let old : (0 < next k) × (rank j ≤ rank (next k)) = r.down j k some (sym (m.chain_else j y) ∙ row ∙ m.chain_else k z) (omega arith) in
          let a : (chain (next k) ≡ chain k) × (previous (next k) ≡ k) = r.after k some old.0 in
          let next_level : new_rank (next k) ≡ rank (next k) = m.rank_else (next k) (other (next k) (omega arith)) in
          subst (λ (x : ℕ). (0 < x) × (new_rank j ≤ new_rank x)) (sym (m.next_else k z)) (old.0, omega arith))
          (cases_eq j c))
          (cases_eq k c);
      back = λ j h some_previous. ⊎_elim
          (λ (e : j ≡ c). absurd (let gone : new_previous j ≡ 0 = ap new_previous e ∙ m.previous_here in omega arith))
          (λ (z : j ≢ c).
          let some : 0 < chain j = was j z h in
          ⊎_elim
          (λ (e : j ≡ front l).
          let some_front : 0 < front l = subst (λ (y : ℕ). 0 < y) e (some_node j some) in
          let to : new_previous j ≡ c = ap new_previous e ∙ m.previous_front some_front in
          (ap new_next to ∙ m.next_here ∙ sym e, ap new_chain to ∙ m.chain_here ∙ sym (head some_front).0 ∙ ap chain (sym e) ∙ sym (m.chain_else j z)))
          (λ (y : j ≢ front l).
          let to : new_previous j ≡ previous j = m.previous_else j z y in
          let old : (next (previous j) ≡ j) × (chain (previous j) ≡ chain j) = r.back j some (subst (λ (x : ℕ). 0 < x) to some_previous) in
          let not_c : previous j ≢ c = other (previous j) (omega arith) in
          (ap new_next to ∙ m.next_else (previous j) not_c ∙ old.0, ap new_chain to ∙ m.chain_else (previous j) not_c ∙ old.1 ∙ sym (m.chain_else j z)))
          (cases_eq j (front l)))
          (cases_eq j c);
      first = λ j h leads. ⊎_elim
          (λ (e : j ≡ c). ap new_front (ap new_chain e ∙ m.chain_here) ∙ m.front_here ∙ sym e)
          (λ (z : j ≢ c).
          let some : 0 < chain j = was j z h in
          ⊎_elim
          (λ (e : j ≡ front l).
          let some_front : 0 < front l = subst (λ (y : ℕ). 0 < y) e (some_node j some) in
          absurd (let gone : c ≡ 0 = sym (ap new_previous e ∙ m.previous_front some_front) ∙ leads in omega arith))
          (λ (y : j ≢ front l).
          let old : front (chain j) ≡ j = r.first j some (sym (m.previous_else j z y) ∙ leads) in
          let not_l : chain j ≢ l = λ f. y (sym old ∙ ap front f) in
          ap new_front (m.chain_else j z) ∙ m.front_else (chain j) not_l ∙ old)
          (cases_eq j (front l)))
          (cases_eq j c);
      apart = λ j k h row level. ⊎_elim
          (λ (e : j ≡ c). ⊎_elim
          (λ (f : k ≡ c). e ∙ sym f)
          (λ (z : k ≢ c).
          let in_l : chain k ≡ l = sym (m.chain_else k z) ∙ sym row ∙ ap new_chain e ∙ m.chain_here in
          let old : (0 < front l) × (rank k ≤ rank (front l)) = subst (λ (y : ℕ). (0 < front y) × (rank k ≤ rank (front y))) in_l (r.top k (omega arith)) in
          absurd (let here : new_rank j ≡ suc (rank (front l)) = ap new_rank e ∙ m.rank_here in let same : new_rank k ≡ rank k = m.rank_else k z in
          omega arith))
          (cases_eq k c))
          (λ (y : j ≢ c). ⊎_elim
          (λ (f : k ≡ c).
          let in_l : chain j ≡ l = sym (m.chain_else j y) ∙ row ∙ ap new_chain f ∙ m.chain_here in
          let old : (0 < front l) × (rank j ≤ rank (front l)) = subst (λ (x : ℕ). (0 < front x) × (rank j ≤ rank (front x))) in_l (r.top j (omega arith)) in
          absurd (let here : new_rank k ≡ suc (rank (front l)) = ap new_rank f ∙ m.rank_here in let same : new_rank j ≡ rank j = m.rank_else j y in
          omega arith))
          (λ (z : k ≢ c). r.apart j k (was j y h) (sym (m.chain_else j y) ∙ row ∙ m.chain_else k z) (sym (m.rank_else j y) ∙ level ∙ m.rank_else k z))
          (cases_eq k c))
          (cases_eq j c);
    }

-- ---- the lists

-- what is the same in the links that are written is the same in all
pub map_set_kept :
    (f : Links → ℕ) (links : List Links) (i : ℕ) (x d : Links) → f x ≡ f (get_or links i d) → map f (slice_set links i x) ≡ map f links
map_set_kept f links i x d same =
    map-set f links i x ∙ ap (slice_set (map f links) i) same ∙ sym (map-set f links i (get_or links i d)) ∙ ap (map f) (set-get_or links i d)

at_set : (items : List ℕ) (i x : ℕ) → i < length items → slice_index (slice_set items i x) i ≡ x
at_set items i x low = get_or-set_same items i x 0 low

at_else : (items : List ℕ) (i j x : ℕ) → j ≢ i → slice_index (slice_set items i x) j ≡ slice_index items j
at_else items i j x apart = get_or-set_other items i j x 0 apart

-- a link that was read is the one on its list
pub read_link : (f : Links → ℕ) (links : List Links) (i : ℕ) (x : Links) → i < length (map f links) → x ≡ get_or links i x → f x ≡ slice_index (map f links) i
read_link f links i x low read = ap f read ∙ sym (get_or-map f links i x) ∙ get_or_default (map f links) i (f x) 0 low

pub ruleset written_links = (map-set, map_set_kept)

-- the neighbours of a node that is in a chain, and the front of a chain
pub before_within :
    (nodes : ℕ) (chain : ℕ → ℕ) (first next previous : List ℕ) (n : ℕ) → IsIndex nodes chain first next previous → 0 < chain n → slice_index previous n < nodes
before_within nodes chain first next previous n x some_chain = ⊎_elim
    (λ (z : slice_index previous n ≡ 0). omega (arith, x.some))
    (λ (z : slice_index previous n ≢ 0). let back = x.chained.back n some_chain (omega arith) in x.within (slice_index previous n) (omega (arith, back.1)))
    (cases_eq (slice_index previous n) 0)

pub after_within :
    (nodes : ℕ) (chain : ℕ → ℕ) (first next previous : List ℕ) (n : ℕ) → IsIndex nodes chain first next previous → 0 < chain n → slice_index next n < nodes
after_within nodes chain first next previous n x some_chain = ⊎_elim
    (λ (z : slice_index next n ≡ 0). omega (arith, x.some))
    (λ (z : slice_index next n ≢ 0). let after = x.chained.after n some_chain (omega arith) in x.within (slice_index next n) (omega (arith, after.0)))
    (cases_eq (slice_index next n) 0)

pub front_within :
    (nodes : ℕ) (chain : ℕ → ℕ) (first next previous : List ℕ) (l : ℕ) → IsIndex nodes chain first next previous → front_in first l < nodes
front_within nodes chain first next previous l x = ⊎_elim
    (λ (z : front_in first l ≡ 0). omega (arith, x.some))
    (λ (z : front_in first l ≢ 0). let head = x.chained.head l (omega arith) in x.within (front_in first l) (omega (arith, head.0, head.1)))
    (cases_eq (front_in first l) 0)

-- one front node is another
front_here : (first : List ℕ) (parent x : ℕ) → parent < length first → front_in (slice_set first parent x) (suc parent) ≡ x
front_here first parent x low = at_set first parent x low

front_else : (first : List ℕ) (parent x l : ℕ) → l ≢ suc parent → front_in (slice_set first parent x) l ≡ front_in first l
front_else first parent x zero other = refl
front_else first parent x (suc l) other = at_else first parent l x (λ e. other (ap suc e))

-- A node is taken out of the chain of its parent. The first child of the parent is another if it was this one.
pub IsIndex-taken_out :
    (nodes : ℕ) (chain now : ℕ → ℕ) (first firsts next previous : List ℕ) (n parent : ℕ) → IsIndex nodes chain first next previous → chain n ≡ suc parent
    → now n ≡ 0 → OnlyMoves n chain now → (slice_index previous n ≡ 0 → firsts ≡ slice_set first parent (slice_index next n))
    → (slice_index previous n ≢ 0 → firsts ≡ first)
    → IsIndex nodes now firsts (slice_set next (slice_index previous n) (slice_index next n)) (slice_set previous (slice_index next n) (slice_index previous n))
IsIndex-taken_out nodes chain now first firsts next previous n parent x here out others is_first is_later =
    let before = slice_index previous n in
    let after = slice_index next n in
    let some_chain : 0 < chain n = omega (arith, here) in
    let low : parent < length first = (let high = x.chained.high n in omega (arith, x.firsts, here, high)) in
    record {
      firsts = ⊎_elim (λ z. ap (λ l. length l) (is_first z) ∙ length-set first parent after ∙ x.firsts)
          (λ z. ap (λ l. length l) (is_later z) ∙ x.firsts) (cases_eq before 0);
      nexts = length-set next before after ∙ x.nexts;
      previouses = length-set previous after before ∙ x.previouses;
      some = x.some;
      within = λ m some. x.within m (⊎_elim (λ (e : m ≡ n). absurd (let gone : now m ≡ 0 = ap now e ∙ out in omega arith))
          (λ apart. subst (λ (l : ℕ). 0 < l) (others m apart) some) (cases_eq m n));
      rank = x.rank;
      chained = AreChained-taken_out nodes chain (front_in first) (slice_index next) (slice_index previous) now (front_in firsts)
          (slice_index (slice_set next before after)) (slice_index (slice_set previous after before)) x.rank n x.chained some_chain
          (record {
            chain_here = out;
            chain_else = others;
            front_head = λ z. ap (front_in firsts) here ∙ ap (λ l. front_in l (suc parent)) (is_first z) ∙ front_here first parent after low;
            front_keep = λ some. ap (λ l. front_in l (chain n)) (is_later (λ z. omega (arith, some, z)));
            front_else = λ l other. ⊎_elim
                (λ z. ap (λ items. front_in items l) (is_first z) ∙ front_else first parent after l (λ e. other (e ∙ sym here)))
                (λ z. ap (λ items. front_in items l) (is_later z))
                (cases_eq before 0);
            next_here = at_set next before after (omega (arith, x.nexts, before_within nodes chain first next previous n x some_chain));
            next_else = λ j other. at_else next before j after other;
            previous_here = at_set previous after before (omega (arith, x.previouses, after_within nodes chain first next previous n x some_chain));
            previous_else = λ j other. at_else previous after j before other;
          });
    }

raised : (ℕ → ℕ) → ℕ → ℕ → ℕ → ℕ
raised rank n top j = cond (j == n) (suc top) (rank j)

raised-here : (rank : ℕ → ℕ) (n top : ℕ) → raised rank n top n ≡ suc top
unfolding raised
raised-here rank n top = ap (λ (b : Bool). cond b (suc top) (rank n)) (eq-eqb n n refl)

raised-else : (rank : ℕ → ℕ) (n top j : ℕ) → j ≢ n → raised rank n top j ≡ rank j
unfolding raised
raised-else rank n top j apart = ap (λ (b : Bool). cond b (suc top) (rank j)) (ne_eqb j n apart)

-- a node that is nobody's child is put to the front of the chain of a parent
pub IsIndex-put_in :
    (nodes : ℕ) (chain now : ℕ → ℕ) (first next previous : List ℕ) (n parent : ℕ) → IsIndex nodes chain first next previous → n < nodes → parent < nodes
    → 0 < n → chain n ≡ 0 → now n ≡ suc parent → OnlyMoves n chain now
    → IsIndex nodes now (slice_set first parent n) (slice_set next n (slice_index first parent))
    (slice_set (slice_set previous (slice_index first parent) n) n 0)
IsIndex-put_in nodes chain now first next previous n parent x low parent_low some_node free here others =
    let front = slice_index first parent in
    let rank : ℕ → ℕ = raised x.rank n (x.rank front) in
    let head_apart : 0 < front → front ≢ n = λ some e. let head = x.chained.head (suc parent) some in
    absurd (let gone : chain front ≡ 0 = ap chain e ∙ free in omega (arith, head.1)) in
    let previouses : List ℕ = slice_set (slice_set previous front n) n 0 in
    record {
      firsts = length-set first parent n ∙ x.firsts;
      nexts = length-set next n front ∙ x.nexts;
      previouses = length-set (slice_set previous front n) n 0 ∙ length-set previous front n ∙ x.previouses;
      some = x.some;
      within = λ m some. ⊎_elim (λ (e : m ≡ n). omega (arith, e, low)) (λ apart. x.within m (subst (λ (l : ℕ). 0 < l) (others m apart) some)) (cases_eq m n);
      rank = rank;
      chained = AreChained-put_in nodes chain (front_in first) (slice_index next) (slice_index previous) x.rank now (front_in (slice_set first parent n))
          (slice_index (slice_set next n front)) (slice_index previouses) rank n (suc parent) x.chained free some_node (omega arith) (omega (arith, parent_low))
          (record {
            chain_here = here;
            chain_else = others;
            front_here = front_here first parent n (omega (arith, x.firsts, parent_low));
            front_else = λ l other. front_else first parent n l other;
            next_here = at_set next n front (omega (arith, x.nexts, low));
            next_else = λ j other. at_else next n j front other;
            previous_here = at_set (slice_set previous front n) n 0 (omega (arith, x.previouses, length-set previous front n, low));
            previous_front = λ some. at_else (slice_set previous front n) n front 0 (head_apart some)
                ∙ at_set previous front n (omega (arith, x.previouses, front_within nodes chain first next previous (suc parent) x));
            previous_else = λ j other past. at_else (slice_set previous front n) n j 0 other ∙ at_else previous front j n past;
            rank_here = raised-here x.rank n (x.rank front);
            rank_else = λ j other. raised-else x.rank n (x.rank front) j other;
          });
    }

-- the same chains, by another function
pub IsIndex-same :
    (nodes : ℕ) (chain now : ℕ → ℕ) (first next previous : List ℕ) → IsIndex nodes chain first next previous → ((n : ℕ) → now n ≡ chain n)
    → IsIndex nodes now first next previous
IsIndex-same nodes chain now first next previous x same =
    let r = x.chained in
    let was : (n : ℕ) → 0 < now n → 0 < chain n = λ n some. subst (λ (l : ℕ). 0 < l) (same n) some in
    record {
      firsts = x.firsts;
      nexts = x.nexts;
      previouses = x.previouses;
      some = x.some;
      within = λ n some. x.within n (was n some);
      rank = x.rank;
      chained = record {
        none = same 0 ∙ r.none;
        bottom = r.bottom;
        high = λ n. subst (λ (l : ℕ). l ≤ nodes) (sym (same n)) (r.high n);
        top = λ n some. subst (λ (l : ℕ). (0 < front_in first l) × (x.rank n ≤ x.rank (front_in first l))) (sym (same n)) (r.top n (was n some));
        head = λ l some. let old = r.head l some in (old.0, same (front_in first l) ∙ old.1, old.2);
        falls = λ n some. r.falls n (was n some);
        after = λ n some more. let old = r.after n (was n some) more in (same (slice_index next n) ∙ old.0 ∙ sym (same n), old.1);
        down = λ m n some both lower. r.down m n (was n some) (sym (same m) ∙ both ∙ same n) lower;
        back = λ n some more. let old = r.back n (was n some) more in (old.0, same (slice_index previous n) ∙ old.1 ∙ sym (same n));
        first = λ n some leads. ap (front_in first) (same n) ∙ r.first n (was n some) leads;
        apart = λ m n some both level. r.apart m n (was m some) (sym (same m) ∙ both ∙ same n) level;
      };
    }

-- number 0 alone has no child
pub IsIndex-alone : IsIndex 1 (λ n. 0) (0 ∷ []) (0 ∷ []) (0 ∷ [])
IsIndex-alone = record {
  firsts = refl;
  nexts = refl;
  previouses = refl;
  some = omega arith;
  within = λ n more. absurd (omega (arith, more));
  rank = λ n. 0;
  chained = record {
    none = refl;
    bottom = refl;
    high = λ n. omega arith;
    top = λ n more. absurd (omega (arith, more));
    head = λ l more. absurd (omega (arith, more, no_front l));
    falls = λ n more. absurd (omega (arith, more));
    after = λ n more past. absurd (omega (arith, more));
    down = λ m n more both lower. absurd (omega (arith, more));
    back = λ n more past. absurd (omega (arith, more));
    first = λ n more leads. absurd (omega (arith, more));
    apart = λ m n more both level. absurd (omega (arith, more));
  };
}
  where
    no_front : (l : ℕ) → front_in (0 ∷ []) l ≡ 0
    no_front (suc zero) = refl
    no_front l = refl

-- ---- a move in two steps

without : ℕ → (ℕ → ℕ) → ℕ → ℕ
without node chain n = cond (n == node) 0 (chain n)

without-here : (node : ℕ) (chain : ℕ → ℕ) → without node chain node ≡ 0
unfolding without
without-here node chain = ap (λ (b : Bool). cond b 0 (chain node)) (eq-eqb node node refl)

without-else : (node : ℕ) (chain : ℕ → ℕ) → OnlyMoves node chain (without node chain)
unfolding without
without-else node chain n apart = ap (λ (b : Bool). cond b 0 (chain n)) (ne_eqb n node apart)

-- a move to where the node is
pub MovesNode-none : (node l : ℕ) (children : ChildIndex) → MovesNode node l l children children
MovesNode-none node l children nodes chain now index here there others =
    IsIndex-same nodes chain now _ _ _ index
    (λ n. ⊎_elim (λ (e : n ≡ node). ap now e ∙ there ∙ sym here ∙ ap chain (sym e)) (λ apart. others n apart) (cases_eq n node))

-- a move out of a chain, and one into another
pub MovesNode-trans :
    (node from to : ℕ) (before between after : ChildIndex) → MovesNode node from 0 before between → MovesNode node 0 to between after
    → MovesNode node from to before after
MovesNode-trans node from to before between after out into nodes chain now index here there others =
    into nodes (without node chain) now (out nodes chain (without node chain) index here (without-here node chain) (without-else node chain))
    (without-here node chain) there (λ n apart. others n apart ∙ sym (without-else node chain n apart))

-- the node is in no chain then, and there are as many nodes
pub HasInChain-out :
    (node from : ℕ) (before between : ChildIndex) → HasInChain before node from → MovesNode node from 0 before between → HasInChain between node 0
HasInChain-out node from before between has out = record {
  nodes = has.nodes;
  chain = without node has.chain;
  chains = out has.nodes has.chain (without node has.chain) has.chains has.here (without-here node has.chain) (without-else node has.chain);
  here = without-here node has.chain;
  low = has.low;
}

pub length-out :
    (node from : ℕ) (before between : ChildIndex) → HasInChain before node from → MovesNode node from 0 before between
    → length (firsts_of between) ≡ length (firsts_of before)
length-out node from before between has out =
    (out has.nodes has.chain (without node has.chain) has.chains has.here (without-here node has.chain) (without-else node has.chain)).firsts
    ∙ sym has.chains.firsts
