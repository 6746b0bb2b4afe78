-- That each node of a kd-tree is where its way leads has one proof at most, so a value may keep it as it is.
use Rattle.plan_model.proofs.Words.{◌≡◌, ℕ, zero, suc, List, Option, Some, refl, sym, ◌∙◌, inl, inr, arith, ◌≢◌, props, cases_eq, cases_lt, same_Some, Point}
use Rattle.plan_model.proofs.Words.{point_at, StandsAt, Children, goes_right, IsOnWay, FollowWays}
use mathlib.Core.HLevel.{is_prop→PathP}
use Rattle.plan_model.specs.Seen.SeenTrees.IsOnWay.{begins, goes_on}
use Rattle.plan_model.proofs.WayLaws.{IsOnWay-unique, way_stops}

-- a node is at a depth of a way in one way at most
IsOnWay-prop : (child : Children) (points : List (Option Point)) (q : Point) (depth n : ℕ) → IsProp (IsOnWay child points q depth n)
IsOnWay-prop child points q zero zero begins begins = refl
IsOnWay-prop child points q zero (suc n) one other = elim one [ ]
IsOnWay-prop child points q (suc depth) m (goes_on _ n _ p way stands other link) (goes_on _ k _ r on there apart edge) =
    let e : n ≡ k = IsOnWay-unique child points q depth n k way on in
    let same : Some p ≡ Some r = sym stands ∙ (λ i. point_at points (e i)) ∙ there in
    let f : p ≡ r = same_Some p r same in
    λ i. goes_on depth (e i) m (f i)
    (is_prop→PathP (λ j. IsOnWay child points q depth (e j)) (λ j. IsOnWay-prop child points q depth (e j)) way on i)
    (is_prop→PathP (λ j. StandsAt points (e j) (f j)) (λ j. hlevel props) stands there i)
    (is_prop→PathP (λ j. f j ≢ q) (λ j. hlevel props) other apart i)
    (is_prop→PathP (λ j. child (e j) (goes_right depth (f j) q) ≡ Some m) (λ j. hlevel props) link edge i)

module _ (child : Children) (points : List (Option Point)) (n : ℕ) (q : Point) (stands : StandsAt points n q) where
  -- a node at the point of a way is at one depth of it
  same_depth : (d e : ℕ) → IsOnWay child points q d n → IsOnWay child points q e n → d ≡ e
  same_depth d e one other =
      elim (cases_eq d e) [
        | inl same ↦ same
        | inr apart ↦ elim (cases_lt d e) [
          | inl less ↦ absurd (way_stops child points q d n one stands e n less other)
          | inr more ↦ absurd (way_stops child points q e n other stands d n (omega (arith, more, apart)) one)
        ]
      ]

  way-prop : IsProp ((depth : ℕ) × IsOnWay child points q depth n)
  way-prop (d, one) (e, other) =
      let same : d ≡ e = same_depth d e one other in
      λ i. (same i, is_prop→PathP (λ j. IsOnWay child points q (same j) n) (λ j. IsOnWay-prop child points q (same j) n) one other i)

-- It has one proof at most.
pub FollowWays-prop : (child : Children) (points : List (Option Point)) → IsProp (FollowWays child points)
FollowWays-prop child points = hlevel (props, way-prop)
