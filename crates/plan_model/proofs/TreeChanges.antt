-- What a number at the end changes in a tree: nothing of the earlier nodes, and nothing at all if it is absent.
use Rattle.std.proofs.Common.{◌≡◌, ℕ, zero, suc, ◌+◌, ◌≤◌, List, [], ◌∷◌, ◌++◌, length, map, Option, None, arith, refl, sym, ap, ◌∙◌, inl, inr, subst}
use Rattle.std.proofs.Common.{length-append, append_assoc}
use Rattle.plan_model.proofs.Words.{option_map, is_some, cond, replicate, append-nil, get_or_append_left, get_or_past, sum_by-append, cases_order}
use Rattle.plan_model.proofs.Words.{get_or-append_seam, get_or-map, map-append, Point, Twig, point_at, point_of, node_count, node_at, points_of, parent_or_zero}
use Rattle.plan_model.proofs.Words.{parent_of, chain_within, chain, length_of_path, sum_of, cases_eq, get_or, ◌≢◌}

-- where node n stands, by the node itself
pub point_at-points_of : (tree : List (Option Twig)) (n : ℕ) → point_at (points_of tree) n ≡ option_map (λ node. node.point) (node_at tree n)
point_at-points_of tree n = get_or-map (option_map (λ node. node.point)) tree n None

pub node_at-push_new : (tree : List (Option Twig)) (node : Option Twig) → node_at (tree ++ node ∷ []) (length tree) ≡ node
node_at-push_new tree node = get_or-append_seam tree node [] None

-- a number past the end is absent
pub node_at-past : (tree : List (Option Twig)) (n : ℕ) → length tree ≤ n → node_at tree n ≡ None
node_at-past tree n l = get_or_past tree n None l

-- one more at the end changes no other number
pub get_or-push_other : {A : Type 0} (os : List (Option A)) (o : Option A) (n : ℕ) → n ≢ length os → get_or (os ++ o ∷ []) n None ≡ get_or os n None
get_or-push_other os o n apart =
    elim (cases_order n (length os)) [
      | inl e ↦ absurd (apart e)
      | inr (inl before) ↦ get_or_append_left os (o ∷ []) None n before
      | inr (inr after) ↦ get_or_past (os ++ o ∷ []) n None (omega (arith, length-append os (o ∷ []))) ∙ sym (get_or_past os n None (omega arith))
    ]

-- and an absent one no number at all
pub get_or-push_absent : {A : Type 0} (os : List (Option A)) (n : ℕ) → get_or (os ++ None ∷ []) n None ≡ get_or os n None
get_or-push_absent os n =
    elim (cases_eq n (length os)) [
      | inl e ↦ ap (λ i. get_or (os ++ None ∷ []) i None) e ∙ get_or-append_seam os None [] None ∙ sym (get_or_past os n None (omega arith))
      | inr apart ↦ get_or-push_other os None n apart
    ]

-- an absent number at the end changes no node
pub node_at-absent : (tree : List (Option Twig)) (n : ℕ) → node_at (tree ++ None ∷ []) n ≡ node_at tree n
node_at-absent = get_or-push_absent

-- ---- the points of a longer tree

pub points_of-push : (tree : List (Option Twig)) (node : Option Twig) → points_of (tree ++ node ∷ []) ≡ points_of tree ++ option_map (λ n. n.point) node ∷ []
points_of-push tree node = map-append (option_map (λ n. n.point)) tree (node ∷ [])

pub node_count-push : (points : List (Option Point)) (o : Option Point) → node_count (points ++ o ∷ []) ≡ node_count points + cond (is_some o) 1 0
node_count-push points o = sum_by-append (λ q. cond (is_some q) 1 0) points (o ∷ []) ∙ omega arith

-- ---- chains and sums by nodes

-- two trees with the same nodes
pub record HaveSameNodes (one other : List (Option Twig)) : Type 0 where
  pub same : (n : ℕ) → node_at one n ≡ node_at other n
  pub count : node_count (points_of one) ≡ node_count (points_of other)

chain_within-same :
    (one other : List (Option Twig)) (most n : ℕ) → HaveSameNodes one other
    → chain_within most (parent_of one) n ≡ chain_within most (parent_of other) n
chain_within-same one other zero n h = refl
chain_within-same one other (suc most) zero h = refl
chain_within-same one other (suc most) (suc n) h =
    let parent : parent_of one (suc n) ≡ parent_of other (suc n) = ap parent_or_zero (h.same (suc n)) in
    ap (λ m. suc n ∷ chain_within most (parent_of one) m) parent ∙ ap (λ ns. suc n ∷ ns) (chain_within-same one other most (parent_of other (suc n)) h)

pub chain-same : (one other : List (Option Twig)) (n : ℕ) → HaveSameNodes one other → chain one n ≡ chain other n
chain-same one other n h =
    ap (λ most. chain_within most (parent_of one) n) h.count ∙ chain_within-same one other (node_count (points_of other)) n h

pub point_of-same : (one other : List (Option Twig)) (n : ℕ) → HaveSameNodes one other → point_of (points_of one) n ≡ point_of (points_of other) n
point_of-same one other n h = rw (point_at-points_of one n, point_at-points_of other n, h.same n) refl

path-same : (one other : List (Option Twig)) (ns : List ℕ) → HaveSameNodes one other → map (point_of (points_of one)) ns ≡ map (point_of (points_of other)) ns
path-same one other [] h = refl
path-same one other (n ∷ ns) h = rw (point_of-same one other n h, path-same one other ns h) refl

pub sum-same : (one other : List (Option Twig)) (n : ℕ) → HaveSameNodes one other → sum_of one n ≡ sum_of other n
sum-same one other n h =
    ap (λ ns. length_of_path (map (point_of (points_of one)) ns)) (chain-same one other n h) ∙ ap length_of_path (path-same one other (chain other n) h)

-- absent numbers at the end change no chain and no sum
pub HaveSameNodes-absent : (tree : List (Option Twig)) → HaveSameNodes (tree ++ None ∷ []) tree
HaveSameNodes-absent tree = record {
  same = node_at-absent tree;
  count = ap node_count (points_of-push tree None) ∙ node_count-push (points_of tree) None ∙ omega arith;
}

-- a tree has the same nodes as itself
pub HaveSameNodes-refl : (tree : List (Option Twig)) → HaveSameNodes tree tree
HaveSameNodes-refl tree = record { same = λ n. refl; count = refl }

-- two trees have the same nodes if a third has those of both
pub HaveSameNodes-trans : (one mid other : List (Option Twig)) → HaveSameNodes one mid → HaveSameNodes mid other → HaveSameNodes one other
HaveSameNodes-trans one mid other f g = record { same = λ n. f.same n ∙ g.same n; count = f.count ∙ g.count }

-- nor do several absent numbers
pub HaveSameNodes-absent_all : (tree : List (Option Twig)) (most : ℕ) → HaveSameNodes (tree ++ replicate most None) tree
HaveSameNodes-absent_all tree zero = rw (append-nil tree) (HaveSameNodes-refl tree)
HaveSameNodes-absent_all tree (suc most) =
    let P : List (Option Twig) → Type 0 = λ longer. HaveSameNodes longer tree in
    let later = HaveSameNodes-absent_all (tree ++ None ∷ []) most in
    subst P (append_assoc tree (None ∷ []) (replicate most None))
    (HaveSameNodes-trans ((tree ++ None ∷ []) ++ replicate most None) (tree ++ None ∷ []) tree later (HaveSameNodes-absent tree))
