-- A poll of sessions in turn, as far as it has come.
use Rattle.any_time.proofs.Words.{◌≡◌, ◌≢◌, ◌<◌, ◌≤◌, ◌+◌, inl, inr, ℕ, Bool, true, false, List, length, get_or, set, length-set, get_or-set_same}
use Rattle.any_time.proofs.Words.{get_or-set_other, below_more, Option, None, Result, refl, sym, ap, subst, ◌∙◌, arith, nat_tests, Context, Ready, Pending}
use Rattle.any_time.proofs.Words.{true≢false, Keeps, get_or_read, set-get_or, Poll, Memory, Better, AllRest, Gave, Rests, place_of, at, SessionState, IsOver}
use Rattle.any_time.proofs.Words.{Polls}

-- The sessions at the places before this one were polled once and gave no item, and the others are as they were. If none of them answered
-- Pending, all of them are at their ends, and nothing has changed.
pub record IsTurning (from : ℕ) (before now : List SessionState) (place : ℕ) (is_pending : Bool) (first cx : Context) : Type 0 where
  pub count : length now ≡ length before
  pub rested : (i : ℕ) (d : SessionState) → i < length before → place_of (length before) from i < place → Rests (at before i d) (at now i d)
  pub same : (i : ℕ) (d : SessionState) → i < length before → place ≤ place_of (length before) from i → at now i d ≡ at before i d
  pub unchanged : is_pending ≡ false → now ≡ before
  pub over : is_pending ≡ false → (i : ℕ) (d : SessionState) → i < length before → place_of (length before) from i < place → IsOver (at before i d)
  pub pending : is_pending ≡ true → (i : ℕ) × (i < length before) × (place_of (length before) from i < place)
      × ((d : SessionState) → Polls (at before i d) Pending (at now i d))
  pub kept : Keeps first cx

-- two numbers have two places
pub place_once : (n from i j : ℕ) → from ≤ n → i < n → j < n → place_of n from i ≡ place_of n from j → i ≡ j
place_once n from i j f a b e = grind (arith, nat_tests)

-- and each has one of them
pub place_within : (n from i : ℕ) → from ≤ n → i < n → place_of n from i < n
place_within n from i f a = grind (arith, nat_tests)

module _ (from : ℕ) (before now : List SessionState) (place : ℕ) (p : Bool) (first cx : Context) (t : IsTurning from before now place p first cx)
    (f : from ≤ length before) (j : ℕ) (within : j < length before) (here : place_of (length before) from j ≡ place)
    (s u : SessionState) (is : s ≡ get_or now j s) where
  -- what was polled is the session of before
  before_is : (d : SessionState) → at before j d ≡ s
  before_is d =
      let w : j < length now = omega (arith, t.count) in
      let k : place ≤ place_of (length before) from j = omega (arith, here) in
      sym (t.same j d within k) ∙ sym (get_or_read now j s w is d)

  after_is : (d : SessionState) → at (set now j u) j d ≡ u
  after_is d = let w : j < length now = omega (arith, t.count) in get_or-set_same now j u d w

  other_is : (i : ℕ) (d : SessionState) → place_of (length before) from i ≢ place → at (set now j u) i d ≡ at now i d
  other_is i d ne = get_or-set_other now j i u d (λ e. ne (ap (place_of (length before) from) e ∙ here))

  polled_as : (answer : Poll (Option (Result Better Memory))) → Polls s answer u → (d : SessionState)
      → Polls (at before j d) answer (at (set now j u) j d)
  polled_as answer h d = rw (before_is d, after_is d) h

  pub gave : (answer : Poll (Option (Result Better Memory))) → Polls s answer u → Gave from before (set now j u) j answer
  gave answer h = record {
    count = length-set now j u ∙ t.count;
    within = within;
    rested = λ i d a b.
        let c : place_of (length before) from i < place = omega (arith, b, here) in
        rw (other_is i d (omega (arith, c))) (t.rested i d a c);
    polled = polled_as answer h;
    same = λ i d a b.
        let c : place < place_of (length before) from i = omega (arith, b, here) in
        other_is i d (omega (arith, c)) ∙ t.same i d a (omega (arith, c));
  }

  rests_on : Rests s u → (i : ℕ) (d : SessionState) → i < length before → place_of (length before) from i < place + 1
      → Rests (at before i d) (at (set now j u) i d)
  rests_on h i d a b =
      let P : ℕ → Type 0 = λ q. (k : ℕ) (e : SessionState) → k < length before → place_of (length before) from k ≡ q
      → Rests (at before k e) (at (set now j u) k e) in
      let lower : (q : ℕ) → q < place → P q = λ q lt k e within' is'.
      (let c : place_of (length before) from k < place = omega (arith, lt, is') in
      rw (other_is k e (omega (arith, c))) (t.rested k e within' c)) in
      let here' : P place = λ k e within' is'.
      (let same : k ≡ j = place_once (length before) from k j f within' within (is' ∙ sym here) in
      let Q : ℕ → Type 0 = λ m. Rests (at before m e) (at (set now j u) m e) in
      subst Q (sym same) (rw (before_is e, after_is e) h)) in
      below_more P place lower here' _ b i d a refl

  over_on : IsOver s → ((i : ℕ) (d : SessionState) → i < length before → place_of (length before) from i < place → IsOver (at before i d))
      → (i : ℕ) (d : SessionState) → i < length before → place_of (length before) from i < place + 1 → IsOver (at before i d)
  over_on h lower i d a b =
      let P : ℕ → Type 0 = λ q. (k : ℕ) (e : SessionState) → k < length before → place_of (length before) from k ≡ q → IsOver (at before k e) in
      let lower' : (q : ℕ) → q < place → P q = λ q lt k e within' is'. lower k e within' (omega (arith, lt, is')) in
      let here' : P place = λ k e within' is'.
      (let same : k ≡ j = place_once (length before) from k j f within' within (is' ∙ sym here) in
      let Q : ℕ → Type 0 = λ m. IsOver (at before m e) in
      subst Q (sym same) (rw (before_is e) h)) in
      below_more P place lower' here' _ b i d a refl

  same_on : (i : ℕ) (d : SessionState) → i < length before → place + 1 ≤ place_of (length before) from i → at (set now j u) i d ≡ at before i d
  same_on i d a b = other_is i d (omega (arith, b)) ∙ t.same i d a (omega (arith, b))

  module _ (cx' : Context) (on : Keeps cx cx') where
    keeps_on : Keeps first cx'
    keeps_on fact h = on fact (t.kept fact h)

    pub turned_pending : Polls s Pending u → IsTurning from before (set now j u) (place + 1) true first cx'
    turned_pending h = record {
      count = length-set now j u ∙ t.count;
      rested = rests_on (inl h);
      same = same_on;
      unchanged = λ e. absurd (true≢false e);
      over = λ e. absurd (true≢false e);
      pending = λ e. (j, within, omega (arith, here), polled_as Pending h);
      kept = keeps_on;
    }

    pub turned_ended : Polls s (Ready None) u → IsTurning from before (set now j u) (place + 1) p first cx'
    turned_ended h = record {
      count = length-set now j u ∙ t.count;
      rested = rests_on (inr h);
      same = same_on;
      unchanged = λ e. ap (λ (v : SessionState). set now j v) (h.1 ∙ is) ∙ (set-get_or now j s ∙ t.unchanged e);
      over = λ e. over_on h.0 (t.over e);
      pending = λ e.
          let w = t.pending e in
          (w.0, w.1, omega (arith, w.2), λ d. rw (other_is w.0 d (omega (arith, w.2))) (w.3 d));
      kept = keeps_on;
    }

module _ (from : ℕ) (before now : List SessionState) (place : ℕ) (p : Bool) (first cx : Context) (t : IsTurning from before now place p first cx)
    (f : from ≤ length before) (done : length before ≤ place) where
  reached : (i : ℕ) → i < length before → place_of (length before) from i < place
  reached i a = omega (arith, place_within (length before) from i f a)

  pub all_rest : p ≡ true → AllRest before now
  all_rest e = record {
    count = t.count;
    rested = λ i d a. t.rested i d a (reached i a);
    pending = let w = t.pending e in (w.0, w.1, w.3);
  }
