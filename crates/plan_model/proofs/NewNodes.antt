-- A tree with one more node, at a number that had none: the other nodes stay as they are.
use Rattle.plan_model.proofs.Words.{◌≡◌, ℕ, zero, suc, ◌<◌, ◌≤◌, List, [], ◌∷◌, ◌++◌, length, Option, Some, None, arith, refl, sym, ap, ◌∙◌, inl, inr, ◌≢◌, ◌⊎◌}
use Rattle.plan_model.proofs.Words.{true, is_some, cond, option_map, unwrap_or, cases_lt, Point, Twig, point_at, StandsAt, IsPresent, point_of, IsFree}
use Rattle.plan_model.proofs.Words.{AreDistinct, node_count, node_at, points_of, parent_or_zero, parent_of, cases_eq}
use Rattle.plan_model.proofs.ChainLaws.{node_count-cons}
use Rattle.plan_model.proofs.TreeChanges.{point_at-points_of, node_at-push_new, node_at-past, get_or-push_other}

-- ---- points of present nodes

-- a node that stands somewhere is present
pub IsPresent-stands : (points : List (Option Point)) (n : ℕ) (p : Point) → StandsAt points n p → IsPresent points n
IsPresent-stands points n p h = ap is_some h

-- and its point is that
pub point_of-stands : (points : List (Option Point)) (n : ℕ) (p : Point) → StandsAt points n p → point_of points n ≡ p
point_of-stands points n p h = ap (λ o. unwrap_or o (record { x = 0; y = 0 })) h

-- a present node stands at its point
pub StandsAt-present : (points : List (Option Point)) (n : ℕ) → IsPresent points n → StandsAt points n (point_of points n)
StandsAt-present points n h = by_point (point_at points n) refl h
  where
    by_point : (o : Option Point) → point_at points n ≡ o → is_some o ≡ true → StandsAt points n (point_of points n)
    by_point None e p = cc
    by_point (Some q) e p = e ∙ ap Some (sym (point_of-stands points n q e))

-- a number stands at one point only
pub StandsAt-unique : (points : List (Option Point)) (n : ℕ) (p q : Point) → StandsAt points n p → StandsAt points n q → p ≡ q
StandsAt-unique points n p q one other = sym (point_of-stands points n p one) ∙ point_of-stands points n q other

-- if a node is present, there is one at least
pub node_count-some : (points : List (Option Point)) (n : ℕ) → IsPresent points n → 1 ≤ node_count points
node_count-some [] n h = cc
node_count-some (o ∷ points) zero h =
    let here : ◌≡◌ {A = ℕ} (cond (is_some o) 1 0) 1 = ap (λ b. cond {A = ℕ} b 1 0) h in
    omega (arith, here, node_count-cons o points)
node_count-some (o ∷ points) (suc n) h = omega (arith, node_count-cons o points, node_count-some points n h)

-- ---- one node more

-- a node of the longer tree is the new one, or was there
pub new_or_old :
    (points later : List (Option Point)) (n : ℕ) (p : Point) → StandsAt later n p → ((i : ℕ) → i ≢ n → point_at later i ≡ point_at points i)
    → (i : ℕ) (q : Point) → StandsAt later i q → ((i ≡ n) × (q ≡ p)) ⊎ StandsAt points i q
new_or_old points later n p stands elsewhere i q h =
    elim (cases_eq i n) [
      | inl e ↦ inl (e, StandsAt-unique later n q p (ap (point_at later) (sym e) ∙ h) stands)
      | inr apart ↦ inr (sym (elsewhere i apart) ∙ h)
    ]

-- no two nodes stand at the same point, if none stood at the new one's
pub AreDistinct-one_more :
    (points later : List (Option Point)) (n : ℕ) (p : Point) → StandsAt later n p → ((i : ℕ) → i ≢ n → point_at later i ≡ point_at points i)
    → IsFree points p → AreDistinct points → AreDistinct later
AreDistinct-one_more points later n p stands elsewhere free distinct i j q one other =
    elim (new_or_old points later n p stands elsewhere i q one) [
      | inl new ↦ elim (new_or_old points later n p stands elsewhere j q other) [
        | inl also ↦ new.0 ∙ sym also.0
        | inr old ↦ absurd (free j (old ∙ ap Some new.1))
      ]
      | inr old ↦ elim (new_or_old points later n p stands elsewhere j q other) [
        | inl new ↦ absurd (free i (old ∙ ap Some new.1))
        | inr also ↦ distinct i j q old also
      ]
    ]

-- ---- by nodes

-- the same node stands at the same point
pub point_at-same : (one other : List (Option Twig)) (n : ℕ) → node_at one n ≡ node_at other n → point_at (points_of one) n ≡ point_at (points_of other) n
point_at-same one other n e =
    point_at-points_of one n ∙ ap (option_map (λ node. node.point)) e ∙ sym (point_at-points_of other n)

-- a node stands at its point
pub StandsAt-node : (tree : List (Option Twig)) (n : ℕ) (node : Twig) → node_at tree n ≡ Some node → StandsAt (points_of tree) n node.point
StandsAt-node tree n node e = point_at-points_of tree n ∙ ap (option_map (λ node. node.point)) e

-- an absent node has no point
pub point_at-absent : (tree : List (Option Twig)) (n : ℕ) → node_at tree n ≡ None → point_at (points_of tree) n ≡ None
point_at-absent tree n e = point_at-points_of tree n ∙ ap (option_map (λ node. node.point)) e

pub not_present : (tree : List (Option Twig)) (n : ℕ) → node_at tree n ≡ None → IsPresent (points_of tree) n → ⊥
not_present tree n e h = let absent = ap is_some (point_at-absent tree n e) in cc

-- a present node has a number below the length
pub present_below : (tree : List (Option Twig)) (n : ℕ) → IsPresent (points_of tree) n → n < length tree
present_below tree n h =
    elim (cases_lt n (length tree)) [
      | inl l ↦ l
      | inr past ↦ absurd (not_present tree n (node_at-past tree n past) h)
    ]

-- ---- one more node of a tree

-- after is the tree with this node at a number that had none
pub record Adds (tree : List (Option Twig)) (number : ℕ) (node : Twig) (after : List (Option Twig)) : Type 0 where
  pub absent : node_at tree number ≡ None
  pub here : node_at after number ≡ Some node
  pub elsewhere : (n : ℕ) → n ≢ number → node_at after n ≡ node_at tree n

-- a node put at the end
pub Adds-push : (tree : List (Option Twig)) (node : Twig) → Adds tree (length tree) node (tree ++ Some node ∷ [])
Adds-push tree node = record {
  absent = node_at-past tree (length tree) (omega arith);
  here = node_at-push_new tree (Some node);
  elsewhere = get_or-push_other tree (Some node);
}

module _ (tree : List (Option Twig)) (number : ℕ) (node : Twig) (after : List (Option Twig)) (adds : Adds tree number node after) where
  -- a present node stays as it is
  pub node_at-kept : (n : ℕ) → IsPresent (points_of tree) n → node_at after n ≡ node_at tree n
  node_at-kept n h = adds.elsewhere n (λ e. not_present tree n (ap (node_at tree) e ∙ adds.absent) h)

  pub point_at-kept : (n : ℕ) → IsPresent (points_of tree) n → point_at (points_of after) n ≡ point_at (points_of tree) n
  point_at-kept n h = point_at-same after tree n (node_at-kept n h)

  pub IsPresent-kept : (n : ℕ) → IsPresent (points_of tree) n → IsPresent (points_of after) n
  IsPresent-kept n h = ap is_some (point_at-kept n h) ∙ h

  pub point_of-kept : (n : ℕ) → IsPresent (points_of tree) n → point_of (points_of after) n ≡ point_of (points_of tree) n
  point_of-kept n h = ap (λ o. unwrap_or o (record { x = 0; y = 0 })) (point_at-kept n h)

  pub parent_of-kept : (n : ℕ) → IsPresent (points_of tree) n → parent_of after n ≡ parent_of tree n
  parent_of-kept n h = ap parent_or_zero (node_at-kept n h)

  -- the new node
  pub StandsAt-new : StandsAt (points_of after) number node.point
  StandsAt-new = StandsAt-node after number node adds.here

  pub parent_of-new : parent_of after number ≡ node.parent
  parent_of-new = ap parent_or_zero adds.here

  point_at-elsewhere : (n : ℕ) → n ≢ number → point_at (points_of after) n ≡ point_at (points_of tree) n
  point_at-elsewhere n apart = point_at-same after tree n (adds.elsewhere n apart)

  -- a node of the longer tree is the new one, or was there
  pub new_or_kept : (n : ℕ) (p : Point) → StandsAt (points_of after) n p → ((n ≡ number) × (p ≡ node.point)) ⊎ StandsAt (points_of tree) n p
  new_or_kept = new_or_old (points_of tree) (points_of after) number node.point StandsAt-new point_at-elsewhere

  -- no two nodes stand at the same point, if none stood at the new one's
  pub AreDistinct-adds : AreDistinct (points_of tree) → IsFree (points_of tree) node.point → AreDistinct (points_of after)
  AreDistinct-adds distinct free =
      AreDistinct-one_more (points_of tree) (points_of after) number node.point StandsAt-new point_at-elsewhere free distinct
