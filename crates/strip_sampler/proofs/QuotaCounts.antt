-- The quota by one division: whole rounds of the strips, and one mark more for the strips before the limit.
use Rattle.std.proofs.Common.{◌≡◌, ℕ, ◌+◌, ◌*◌, ◌/◌, ◌%◌, ◌<◌, ◌≤◌, Bool, true, false, ltb, arith, refl, inl, inr}
use Rattle.std.proofs.lemmas.Nat.{mul-le, div-add-mod', mod_below}
use Rattle.std.proofs.lemmas.Bool.{cases_lt, ltb-true, ltb-false}
use mir.Val.{bool_byte}
use Rattle.plan_model.specs.Scenes.MarkPoints.{quota_of}
use Rattle.plan_model.proofs.QuotaLaws.{IsCutAt, IsCutAt-quota}

-- only one number cuts the marks of a strip at a limit
IsCutAt-unique : (strips g limit a b : ℕ) → IsCutAt strips g limit a → IsCutAt strips g limit b → a ≡ b
IsCutAt-unique strips g limit a b h k =
    let upper : a ≤ b = elim (cases_lt b a) [
      | inl less ↦ absurd (omega (arith, k.below_quota b (h.below_limit b less)))
      | inr fits ↦ fits
    ] in
    let lower : b ≤ a = elim (cases_lt a b) [
      | inl less ↦ absurd (omega (arith, h.below_quota a (k.below_limit a less)))
      | inr fits ↦ fits
    ] in
    omega arith

-- the limit is so many whole rounds, and a rest
record IsDivided (strips limit rounds rest : ℕ) : Type 0 where
  whole : rounds * strips + rest ≡ limit
  below : rest < strips

-- the mark of the last round is below the limit
cut_in_rest : (strips g limit rounds rest : ℕ) → IsDivided strips limit rounds rest → g < rest → IsCutAt strips g limit (rounds + 1)
cut_in_rest strips g limit rounds rest h within =
    let whole = h.whole in
    let below = h.below in
    record {
      below_quota = λ c less. elim (cases_lt c (rounds + 1)) [
        | inl fits ↦ fits
        | inr more ↦ absurd (omega (arith, mul-le (rounds + 1) strips c strips more (omega arith)))
      ];
      below_limit = λ c less. omega (arith, mul-le c strips rounds strips (omega arith) (omega arith));
    }

-- or not
cut_after_rest : (strips g limit rounds rest : ℕ) → IsDivided strips limit rounds rest → g < strips → rest ≤ g → IsCutAt strips g limit rounds
cut_after_rest strips g limit rounds rest h own after =
    let whole = h.whole in
    let below = h.below in
    record {
      below_quota = λ c less. elim (cases_lt c rounds) [
        | inl fits ↦ fits
        | inr more ↦ absurd (omega (arith, mul-le rounds strips c strips more (omega arith)))
      ];
      below_limit = λ c less. omega (arith, mul-le (c + 1) strips rounds strips (omega arith) (omega arith));
    }

cut_by :
    (b : Bool) (strips g limit rounds rest : ℕ) → ltb g rest ≡ b → g < strips → IsDivided strips limit rounds rest
    → IsCutAt strips g limit (rounds + bool_byte b)
cut_by true strips g limit rounds rest e own h = cut_in_rest strips g limit rounds rest h (ltb-true g rest e)
cut_by false strips g limit rounds rest e own h =
    let same : rounds + 0 ≡ rounds = omega arith in
    rw same (cut_after_rest strips g limit rounds rest h own (ltb-false g rest e))

pub quota-divided : (strips g limit : ℕ) → g < strips → limit / strips + bool_byte (ltb g (limit % strips)) ≡ quota_of strips g limit
quota-divided strips g limit own =
    let divided : IsDivided strips limit (limit / strips) (limit % strips)
    = record { whole = omega (arith, div-add-mod' limit strips); below = mod_below limit strips (omega arith) } in
    IsCutAt-unique strips g limit (limit / strips + bool_byte (ltb g (limit % strips))) (quota_of strips g limit)
    (cut_by (ltb g (limit % strips)) strips g limit (limit / strips) (limit % strips) refl own divided) (IsCutAt-quota strips g limit own)
