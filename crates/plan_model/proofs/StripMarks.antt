-- Marks by their strips: each mark below a limit is the c-th of one strip, once, and the quotas of all strips add up to the limit.
use Rattle.plan_model.proofs.Words.{◌≡◌, ℕ, zero, suc, ◌+◌, ◌*◌, ◌/◌, ◌%◌, ◌<◌, ◌≤◌, true, false, cond, eqb, ltb, arith, refl, sym, ap, ◌∙◌, inl, inr, ◌≢◌}
use Rattle.plan_model.proofs.Words.{count_by, range_with_len, cases_eq, cases_lt, ne_eqb, lt-ltb, le-ltb, div-add-mod', div-mul-add, mod-mul-add, quota_of}
use Rattle.plan_model.proofs.Words.{IsMarkOf, is_claimed}
use Rattle.std.specs.List.{sum_by}
use Rattle.std.proofs.lemmas.Bool.{eq-eqb}
use Rattle.plan_model.proofs.CountsBelow.{count-more, count-single}
use Rattle.plan_model.proofs.QuotaLaws.{IsCutAt-quota}
use Rattle.plan_model.proofs.SumsBelow.{sum-more}
use Rattle.plan_model.proofs.WorkerTurns.{ltb-next}

-- ---- the strip of a mark

remainder_below : (k n : ℕ) → 0 < n → k % n < n
remainder_below k n some = omega arith

-- each mark below the limit is one of its strip
pub IsMarkOf-own : (strips limit k : ℕ) → 0 < strips → k < limit → IsMarkOf strips limit k (k % strips) (k / strips)
IsMarkOf-own strips limit k some low =
    let number : k / strips * strips + k % strips ≡ k = div-add-mod' k strips in
    let within = remainder_below k strips some in
    record {
      strip = within;
      below = (IsCutAt-quota strips (k % strips) limit within).below_quota (k / strips) (omega (arith, number, low));
      number = sym number;
    }

-- and of no other, nor as another one
pub IsMarkOf-strip : (strips limit k g c : ℕ) → IsMarkOf strips limit k g c → g ≡ k % strips
IsMarkOf-strip strips limit k g c h = sym (ap (λ n. n % strips) h.number ∙ mod-mul-add c strips g h.strip)

pub IsMarkOf-place : (strips limit k g c : ℕ) → IsMarkOf strips limit k g c → c ≡ k / strips
IsMarkOf-place strips limit k g c h = sym (ap (λ n. n / strips) h.number ∙ div-mul-add c strips g h.strip)

-- one of a strip is below the limit
pub IsMarkOf-below : (strips limit k g c : ℕ) → IsMarkOf strips limit k g c → k < limit
IsMarkOf-below strips limit k g c h = omega (arith, h.number, (IsCutAt-quota strips g limit h.strip).below_limit c h.below)

-- ---- the quotas of all strips

-- a sum of sums is the sums' sum
sum-plus :
    (f g h : ℕ → ℕ) (n : ℕ) → ((i : ℕ) → h i ≡ f i + g i)
    → sum_by h (range_with_len 0 n) ≡ sum_by f (range_with_len 0 n) + sum_by g (range_with_len 0 n)
sum-plus f g h zero each = refl
sum-plus f g h (suc n) each = omega (arith, sum-more f n, sum-more g n, sum-more h n, sum-plus f g h n each, each n)

sum-none : (f : ℕ → ℕ) (n : ℕ) → ((i : ℕ) → f i ≡ 0) → sum_by f (range_with_len 0 n) ≡ 0
sum-none f zero none = refl
sum-none f (suc n) none = omega (arith, sum-more f n, sum-none f n none, none n)

-- one strip has mark n
one_strip : (strips n : ℕ) → 0 < strips → count_by (λ g. eqb (n % strips) g) (range_with_len 0 strips) ≡ 1
one_strip strips n some =
    count-single (λ g. eqb (n % strips) g) strips (n % strips) (remainder_below n strips some) (eq-eqb (n % strips) (n % strips) refl)
    (λ g apart. ne_eqb (n % strips) g (λ e. apart (sym e)))

-- The quotas of all strips add up to the limit.
pub quotas-add_up : (strips limit : ℕ) → 0 < strips → sum_by (λ g. quota_of strips g limit) (range_with_len 0 strips) ≡ limit
quotas-add_up strips zero some = sum-none (λ g. quota_of strips g 0) strips (λ g. refl)
quotas-add_up strips (suc n) some =
    let more =
    sum-plus (λ g. quota_of strips g n) (λ g. cond (eqb (n % strips) g) 1 0) (λ g. quota_of strips g (suc n)) strips
    (λ g. count-more (λ k. eqb (k % strips) g) n) in
    omega (arith, more, quotas-add_up strips n some, one_strip strips n some)

-- ---- claimed marks

module _ (strips : ℕ) (some : 0 < strips) where
  -- where the counters stand at the quotas, the marks below the limit are claimed, and no others
  module _ (counters : ℕ → ℕ) (limit : ℕ) (full : (g : ℕ) → g < strips → counters g ≡ quota_of strips g limit) where
    pub is_claimed-below : (k : ℕ) → k < limit → is_claimed strips counters k ≡ true
    is_claimed-below k low =
        let own = IsMarkOf-own strips limit k some low in
        lt-ltb (k / strips) (counters (k % strips)) (omega (arith, own.below, full (k % strips) own.strip))

    pub is_claimed-past : (k : ℕ) → limit ≤ k → is_claimed strips counters k ≡ false
    is_claimed-past k past =
        let within = remainder_below k strips some in
        elim (cases_lt (k / strips) (counters (k % strips))) [
          | inl low ↦ (
              let cut = IsCutAt-quota strips (k % strips) limit within in
              let below = cut.below_limit (k / strips) (omega (arith, low, full (k % strips) within)) in
              absurd (omega (arith, below, past, div-add-mod' k strips)))
          | inr fits ↦ le-ltb (k / strips) (counters (k % strips)) fits
        ]

  -- The counter of strip g goes up by one: its next mark is claimed, and all others are as they were.
  module _
      (counters later : ℕ → ℕ) (g : ℕ) (strip : g < strips) (up : later g ≡ suc (counters g))
      (others : (h : ℕ) → h ≢ g → later h ≡ counters h) where
    abbrev mark : ℕ
    mark = counters g * strips + g

    own_strip : mark % strips ≡ g
    own_strip = mod-mul-add (counters g) strips g strip

    own_place : mark / strips ≡ counters g
    own_place = div-mul-add (counters g) strips g strip

    pub not_claimed-yet : is_claimed strips counters (counters g * strips + g) ≡ false
    not_claimed-yet = le-ltb (mark / strips) (counters (mark % strips)) (omega (arith, own_place, ap counters own_strip))

    pub is_claimed-now : is_claimed strips later (counters g * strips + g) ≡ true
    is_claimed-now = lt-ltb (mark / strips) (later (mark % strips)) (omega (arith, own_place, ap later own_strip, up))

    pub is_claimed-other : (k : ℕ) → k ≢ counters g * strips + g → is_claimed strips later k ≡ is_claimed strips counters k
    is_claimed-other k apart =
        elim (cases_eq (k % strips) g) [
          | inl e ↦ (
              let place : k / strips ≢ counters g =
              λ f. apart (sym (div-add-mod' k strips) ∙ ap (λ c. c * strips + k % strips) f ∙ ap (λ s. counters g * strips + s) e) in
              ap (λ n. ltb (k / strips) n) (ap later e ∙ up) ∙ ltb-next (k / strips) (counters g) place
              ∙ sym (ap (λ n. ltb (k / strips) n) (ap counters e)))
          | inr other ↦ ap (λ n. ltb (k / strips) n) (others (k % strips) other)
        ]
