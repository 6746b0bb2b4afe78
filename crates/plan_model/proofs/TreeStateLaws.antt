-- What stays of a tree with costs and records from one moment to a later one: its nodes where they are, and no cost rises.
use Rattle.plan_model.proofs.Words.{◌≡◌, ℕ, ◌≤◌, arith, refl, sym, ap, ◌∙◌, inl, inr, unwrap_or, Point, point_at, StandsAt, IsPresent, point_of, node_count}
use Rattle.plan_model.proofs.Words.{TreeState, KeepsOrFalls, GrowsInto}
use Rattle.plan_model.proofs.NewNodes.{IsPresent-stands, StandsAt-present}
use Rattle.plan_model.proofs.NodeCounts.{node_count-le}

-- ---- a moment and a later one

module _ (before after : TreeState) (grows : GrowsInto before after) where
  -- a present node stays present
  pub IsPresent-grows : (n : ℕ) → IsPresent before.points n → IsPresent after.points n
  IsPresent-grows n h =
      let p : Point = point_of before.points n in
      IsPresent-stands after.points n p (grows.nodes n p (StandsAt-present before.points n h))

  -- and where it is
  pub point_at-grows : (n : ℕ) → IsPresent before.points n → point_at after.points n ≡ point_at before.points n
  point_at-grows n h =
      let here = StandsAt-present before.points n h in
      grows.nodes n (point_of before.points n) here ∙ sym here

  pub point_of-grows : (n : ℕ) → IsPresent before.points n → point_of after.points n ≡ point_of before.points n
  point_of-grows n h = ap (λ o. unwrap_or o (record { x = 0; y = 0 })) (point_at-grows n h)

  -- a present node stood where it stands later
  pub StandsAt-before : (n : ℕ) (p : Point) → IsPresent before.points n → StandsAt after.points n p → StandsAt before.points n p
  StandsAt-before n p h later = sym (point_at-grows n h) ∙ later

  -- no cost rises
  pub cost-grows : (n : ℕ) → IsPresent before.points n → after.cost n ≤ before.cost n
  cost-grows n h = elim (grows.trees n h) [ inl same ↦ omega (arith, same.0) | inr fell ↦ omega (arith, fell) ]

  -- and there are not fewer nodes
  pub node_count-grows : node_count before.points ≤ node_count after.points
  node_count-grows = node_count-le before.points after.points IsPresent-grows

-- ---- one moment, and several

-- a tree grows into itself
pub GrowsInto-refl : (state : TreeState) → GrowsInto state state
GrowsInto-refl state = record {
  nodes = λ n p h. h;
  first_costs = λ n h. refl;
  trees = λ n h. inl (refl, refl);
  records = λ k entry h. h;
}

-- a node that keeps its parent and cost or costs less, and does so again, does so in all
KeepsOrFalls-trans : (one mid other : TreeState) (n : ℕ) → KeepsOrFalls one mid n → KeepsOrFalls mid other n → KeepsOrFalls one other n
KeepsOrFalls-trans one mid other n (inl f) (inl g) = inl (g.0 ∙ f.0, g.1 ∙ f.1)
KeepsOrFalls-trans one mid other n (inl f) (inr g) = inr (omega (arith, f.0, g))
KeepsOrFalls-trans one mid other n (inr f) (inl g) = inr (omega (arith, f, g.0))
KeepsOrFalls-trans one mid other n (inr f) (inr g) = inr (omega (arith, f, g))

-- a tree grows into what it grows into later on
pub GrowsInto-trans : (one mid other : TreeState) → GrowsInto one mid → GrowsInto mid other → GrowsInto one other
GrowsInto-trans one mid other f g = record {
  nodes = λ n p h. g.nodes n p (f.nodes n p h);
  first_costs = λ n h. g.first_costs n (IsPresent-grows one mid f n h) ∙ f.first_costs n h;
  trees = λ n h. KeepsOrFalls-trans one mid other n (f.trees n h) (g.trees n (IsPresent-grows one mid f n h));
  records = λ k entry h. g.records k entry (f.records k entry h);
}
