-- Whether two points are the same.
use Rattle.plan_model.proofs.Words.{◌≡◌, ℕ, Bool, true, false, Some, eqb, refl, ap, ◌∙◌, inl, inr, unwrap_or, nat_eq, ◌&&◌, ◌≢◌, ◌⊎◌, both_true, cases_eq}
use Rattle.plan_model.proofs.Words.{eqb-true, Point, and_parts}
use Rattle.std.proofs.Common.{eq-eqb}

-- points with the same coordinates are the same
pub point_is : (a b : Point) → a.x ≡ b.x → a.y ≡ b.y → a ≡ b
point_is a b x y =
    let horizontal : ℕ → Point = λ u. record { x = u; y = a.y } in
    let vertical : ℕ → Point = λ v. record { x = b.x; y = v } in
    ap horizontal x ∙ ap vertical y

-- two nodes at one point have the same x
pub same_x : (p q : Point) → Some p ≡ Some q → p.x ≡ q.x
same_x p q e = ap (λ o. (unwrap_or o p).x) e

-- and the same y
pub same_y : (p q : Point) → Some p ≡ Some q → p.y ≡ q.y
same_y p q e = ap (λ o. (unwrap_or o p).y) e

-- a point is another, or the same
pub same_or_other : (p q : Point) → (p ≡ q) ⊎ (p ≢ q)
same_or_other p q =
    elim (cases_eq p.x q.x) [
      | inl same ↦ elim (cases_eq p.y q.y) [
        | inl also ↦ inl (point_is p q same also)
        | inr apart ↦ inr (λ e. apart (ap (λ (r : Point). r.y) e))
      ]
      | inr apart ↦ inr (λ e. apart (ap (λ (r : Point). r.x) e))
    ]

-- ---- by a test

-- whether two points are the same, by coordinates
abbrev pub same_point : Point → Point → Bool
same_point a b = nat_eq a.x b.x && nat_eq a.y b.y

-- points that pass the test are the same
pub same_point-true : (a b : Point) → same_point a b ≡ true → a ≡ b
same_point-true a b h =
    let parts = and_parts (eqb a.x b.x) (eqb a.y b.y) h in
    point_is a b (eqb-true a.x b.x parts.0) (eqb-true a.y b.y parts.1)

-- points that fail it differ
pub same_point-false : (a b : Point) → same_point a b ≡ false → a ≢ b
same_point-false a b h e =
    let yes : same_point a b ≡ true = ap (λ p. same_point p b) e ∙ both_true (eq-eqb b.x b.x refl) (eq-eqb b.y b.y refl) in
    cc
