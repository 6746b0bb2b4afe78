-- A child, by its parent, and what it costs.
use Rattle.seq_planner.proofs.Words.{◌≡◌, ℕ, zero, suc, ◌<◌, true, List, Option, Some, None, arith, refl, sym, ap, ◌∙◌, is_some, option_map, eq-eqb, eqb-true}
use Rattle.seq_planner.proofs.Words.{Twig, IsPresent, node_at, points_of, parent_or_zero, parent_of, CostsFall, point_at-points_of, is_parent_number}
use Rattle.seq_planner.proofs.Words.{hangs_below}

-- Node c is present and not the start, and has node f as its parent.
pub record IsChild (tree : List (Option Twig)) (f c : ℕ) : Type 0 where
  pub child : 0 < c
  pub present : IsPresent (points_of tree) c
  pub parent : parent_of tree c ≡ f

is_parent_number-node :
    (f : ℕ) (node : Option Twig) → is_parent_number f (option_map (λ n. n.parent) node) ≡ true
    → (is_some (option_map (λ n. n.point) node) ≡ true) × (parent_or_zero node ≡ f)
is_parent_number-node f None h = cc
is_parent_number-node f (Some node) h = (refl, eqb-true node.parent f h)

node-is_number :
    (f : ℕ) (node : Option Twig) → is_some (option_map (λ n. n.point) node) ≡ true → parent_or_zero node ≡ f
    → is_parent_number f (option_map (λ n. n.parent) node) ≡ true
node-is_number f None present parent = cc
node-is_number f (Some node) present parent = eq-eqb node.parent f parent

-- the number that is listed as a child is one
pub IsChild-hangs_below : (tree : List (Option Twig)) (f c : ℕ) → hangs_below tree f c ≡ true → IsChild tree f c
IsChild-hangs_below tree f zero h = cc
IsChild-hangs_below tree f (suc n) h =
    let is = is_parent_number-node f (node_at tree (suc n)) h in
    record { child = omega arith; present = ap is_some (point_at-points_of tree (suc n)) ∙ is.0; parent = is.1 }

-- and each child is listed
pub hangs_below-present :
    (tree : List (Option Twig)) (f n : ℕ) → IsPresent (points_of tree) (suc n) → parent_of tree (suc n) ≡ f → hangs_below tree f (suc n) ≡ true
hangs_below-present tree f n present parent =
    node-is_number f (node_at tree (suc n)) (ap is_some (sym (point_at-points_of tree (suc n))) ∙ present) parent

-- a child costs more than its parent
pub IsChild-costs : (costs : ℕ → ℕ) (tree : List (Option Twig)) (f c : ℕ) → CostsFall costs tree → IsChild tree f c → costs f < costs c
IsChild-costs costs tree f zero falling h = absurd (omega (arith, h.child))
IsChild-costs costs tree f (suc n) falling h = omega (arith, ap costs h.parent, falling.falls n h.present)
