-- The c-th mark of strip g has the number c * strips + g, so the quota counts the marks of the strip below the limit.
use Rattle.plan_model.proofs.Words.{◌≡◌, ℕ, zero, suc, ◌+◌, ◌*◌, ◌/◌, ◌%◌, ◌<◌, ◌≤◌, Bool, true, false, cond, eqb, arith, refl, ap, ◌∙◌, inl, inr, mul-le}
use Rattle.plan_model.proofs.Words.{div-add-mod', mod-mul-add, cases_lt, eqb-true, eqb-false, quota_of}
use Rattle.plan_model.proofs.CountsBelow.{count-more}

quota-more : (strips g n : ℕ) → quota_of strips g (suc n) ≡ quota_of strips g n + cond (eqb (n % strips) g) 1 0
quota-more strips g n = count-more (λ k. eqb (k % strips) g) n

-- the marks of the strip below the limit are those below its quota
pub record IsCutAt (strips g limit quota : ℕ) : Type 0 where
  pub below_quota : (c : ℕ) → c * strips + g < limit → c < quota
  pub below_limit : (c : ℕ) → c < quota → c * strips + g < limit

-- mark n is one of the strip
cut_own : (strips g n quota : ℕ) → g < strips → n % strips ≡ g → IsCutAt strips g n quota → IsCutAt strips g (suc n) (quota + 1)
cut_own strips g n quota within own h =
    let q : ℕ = n / strips in
    let number : q * strips + g ≡ n = omega (arith, div-add-mod' n strips) in
    let upper : quota ≤ q = elim (cases_lt q quota) [
      | inl less ↦ absurd (omega (arith, h.below_limit q less))
      | inr enough ↦ enough
    ] in
    let lower : q ≤ quota = elim (cases_lt quota q) [
      | inl less ↦ absurd (omega (arith, h.below_quota quota (omega (arith, mul-le (quota + 1) strips q strips (omega arith) (omega arith)))))
      | inr enough ↦ enough
    ] in
    record {
      below_quota = λ c below. elim (cases_lt q c) [
        | inl more ↦ absurd (omega (arith, mul-le (q + 1) strips c strips (omega arith) (omega arith)))
        | inr fits ↦ omega arith
      ];
      below_limit = λ c below. omega (arith, mul-le c strips q strips (omega arith) (omega arith));
    }

-- mark n is one of another strip
cut_other : (strips g n quota : ℕ) → g < strips → (n % strips ≡ g → ⊥) → IsCutAt strips g n quota → IsCutAt strips g (suc n) quota
cut_other strips g n quota within other h = record {
  below_quota = λ c below. elim (cases_lt (c * strips + g) n) [
    | inl less ↦ h.below_quota c less
    | inr enough ↦ (let number : n ≡ c * strips + g = omega arith in absurd (other (ap (λ k. k % strips) number ∙ mod-mul-add c strips g within)))
  ];
  below_limit = λ c below. omega (arith, h.below_limit c below);
}

cut_next :
    (b : Bool) (strips g n : ℕ) → g < strips → eqb (n % strips) g ≡ b → IsCutAt strips g n (quota_of strips g n)
    → IsCutAt strips g (suc n) (quota_of strips g n + cond b 1 0)
cut_next true strips g n within e h = cut_own strips g n (quota_of strips g n) within (eqb-true (n % strips) g e) h
cut_next false strips g n within e h =
    let same : quota_of strips g n + 0 ≡ quota_of strips g n = omega arith in
    rw same (cut_other strips g n (quota_of strips g n) within (eqb-false (n % strips) g e) h)

pub IsCutAt-quota : (strips g limit : ℕ) → g < strips → IsCutAt strips g limit (quota_of strips g limit)
IsCutAt-quota strips g zero within = record { below_quota = λ c below. absurd (omega arith); below_limit = λ c below. absurd (omega arith) }
IsCutAt-quota strips g (suc n) within =
    rw (quota-more strips g n) (cut_next (eqb (n % strips) g) strips g n within refl (IsCutAt-quota strips g n within))
