-- Chains and sums of nodes with kept costs that strictly fall along parents, whichever numbers the parents have.
use Rattle.plan_model.proofs.Words.{◌≡◌, ℕ, zero, suc, ◌+◌, ◌<◌, ◌≤◌, Bool, true, false, cond, leb, List, [], ◌∷◌, map, get_or, Option, Some, None, arith, refl}
use Rattle.plan_model.proofs.Words.{sym, ap, ◌∙◌, add-zero, IsSome, is_some, ◌&&◌, nat_le, nat_tests, sum_by-cons, common_steps, Point, cost_of, point_at}
use Rattle.plan_model.proofs.Words.{point_of, IsPresent, node_count, chain_within, chain_by, length_of_path, sum_by, edge_by, FallAlong, AreTightAlong}

-- ---- how many present nodes cost at most so much

-- of the points from number k on, how many are present and cost at most c
rank_from : (ℕ → ℕ) → ℕ → ℕ → List (Option Point) → ℕ
rank_from costs c k [] = 0
rank_from costs c k (o ∷ points) = cond (is_some o && nat_le (costs k) c) 1 0 + rank_from costs c (suc k) points

pub node_count-cons : (o : Option Point) (points : List (Option Point)) → node_count (o ∷ points) ≡ cond (is_some o) 1 0 + node_count points
node_count-cons o points = sum_by-cons (λ q. cond (is_some q) 1 0) o points

one_of_both : (a b : Bool) → cond (a && b) 1 0 ≤ cond a 1 0
one_of_both true true = omega arith
one_of_both true false = omega arith
one_of_both false b = omega arith

rank-le-count : (costs : ℕ → ℕ) (c k : ℕ) (points : List (Option Point)) → rank_from costs c k points ≤ node_count points
unfolding rank_from
rank-le-count costs c k [] = omega arith
rank-le-count costs c k (o ∷ points) =
    let here = one_of_both (is_some o) (nat_le (costs k) c) in
    let rest = rank-le-count costs c (suc k) points in
    omega (arith, node_count-cons o points)

more_within : (a : Bool) (x c d : ℕ) → c ≤ d → cond (a && leb x c) 1 0 ≤ cond (a && leb x d) 1 0
more_within false x c d h = omega arith
more_within true x c d h = grind (arith, nat_tests, common_steps)

rank-more : (costs : ℕ → ℕ) (c d k : ℕ) (points : List (Option Point)) → c ≤ d → rank_from costs c k points ≤ rank_from costs d k points
unfolding rank_from
rank-more costs c d k [] h = omega arith
rank-more costs c d k (o ∷ points) h =
    let here = more_within (is_some o) (costs k) c d h in
    let rest = rank-more costs c d (suc k) points h in
    omega arith

yes_within : (o : Option Point) (p : Point) (x c : ℕ) → o ≡ Some p → x ≤ c → ◌≡◌ {A = ℕ} (cond (is_some o && leb x c) 1 0) 1
yes_within o p x c e h = rw e (grind (arith, nat_tests, common_steps))

no_within : (a : Bool) (x c : ℕ) → c < x → ◌≡◌ {A = ℕ} (cond (a && leb x c) 1 0) 0
no_within false x c h = refl
no_within true x c h = grind (arith, nat_tests, common_steps)

-- a present node that costs d counts at d, and not below
rank-falls :
    (costs : ℕ → ℕ) (c d k : ℕ) (points : List (Option Point)) (i : ℕ) (p : Point) → c < d → get_or points i None ≡ Some p → costs (k + i) ≡ d
    → rank_from costs c k points < rank_from costs d k points
unfolding rank_from
rank-falls costs c d k [] i p h e f = cc
rank-falls costs c d k (o ∷ points) zero p h e f =
    let at : costs k ≡ d = sym (ap costs (add-zero k)) ∙ f in
    let now = yes_within o p (costs k) d e (omega arith) in
    let before = no_within (is_some o) (costs k) c (omega arith) in
    let rest = rank-more costs c d (suc k) points (omega arith) in
    omega arith
rank-falls costs c d k (o ∷ points) (suc i) p h e f =
    let at : costs (suc k + i) ≡ d = ap costs (omega arith) ∙ f in
    let rest = rank-falls costs c d (suc k) points i p h e at in
    let here = more_within (is_some o) (costs k) c d (omega arith) in
    omega arith

-- a present node is one of those that cost at most what it costs
rank-some :
    (costs : ℕ → ℕ) (c k : ℕ) (points : List (Option Point)) (i : ℕ) (p : Point) → get_or points i None ≡ Some p → costs (k + i) ≡ c
    → 0 < rank_from costs c k points
unfolding rank_from
rank-some costs c k [] i p e f = cc
rank-some costs c k (o ∷ points) zero p e f =
    let at : costs k ≡ c = sym (ap costs (add-zero k)) ∙ f in
    let now = yes_within o p (costs k) c e (omega arith) in
    omega arith
rank-some costs c k (o ∷ points) (suc i) p e f =
    let at : costs (suc k + i) ≡ c = ap costs (omega arith) ∙ f in
    let rest = rank-some costs c (suc k) points i p e at in
    omega arith

-- ---- chains

-- what is there has a value
pub some_value : {A : Type 0} (o : Option A) → IsSome o → (x : A) × (o ≡ Some x)
some_value None h = cc
some_value (Some x) h = (x, refl)

module _ (costs : ℕ → ℕ) (points : List (Option Point)) (parents : ℕ → ℕ) (fall : FallAlong costs points parents) where
  -- how many present nodes cost at most what node n costs
  rank : ℕ → ℕ
  rank n = rank_from costs (costs n) 0 points

  rank-parent : (n : ℕ) → IsPresent points (suc n) → rank (parents (suc n)) < rank (suc n)
  unfolding rank
  rank-parent n h =
      let some = some_value (point_at points (suc n)) h in
      rank-falls costs (costs (parents (suc n))) (costs (suc n)) 0 points (suc n) some.0 (fall.falls n h) some.1 (ap costs (omega arith))

  rank-positive : (n : ℕ) → IsPresent points n → 0 < rank n
  unfolding rank
  rank-positive n h =
      let some = some_value (point_at points n) h in
      rank-some costs (costs n) 0 points n some.0 some.1 (ap costs (omega arith))

  rank-le : (n : ℕ) → rank n ≤ node_count points
  unfolding rank
  rank-le n = rank-le-count costs (costs n) 0 points

  -- a chain with as many members to spare as the node's rank has no use for more
  chain-enough : (most n : ℕ) → IsPresent points n → rank n ≤ most → chain_within (suc most) parents n ≡ chain_within most parents n
  chain-enough zero n h l = absurd (omega (arith, rank-positive n h))
  chain-enough (suc most) zero h l = refl
  chain-enough (suc most) (suc n) h l =
      ap (λ ns. suc n ∷ ns) (chain-enough most (parents (suc n)) (fall.parent n h) (omega (arith, rank-parent n h)))

  pub chain-start : chain_by points parents 0 ≡ 0 ∷ []
  chain-start = starts (node_count points) (omega (arith, rank-positive 0 fall.start, rank-le 0))
    where
      starts : (most : ℕ) → 0 < most → chain_within most parents 0 ≡ 0 ∷ []
      starts zero h = absurd (omega arith)
      starts (suc most) h = refl

  -- the chain of a node is the node and its parent's chain
  pub chain-parent : (n : ℕ) → IsPresent points (suc n) → chain_by points parents (suc n) ≡ suc n ∷ chain_by points parents (parents (suc n))
  chain-parent n h = goes_on (node_count points) (rank-le (suc n))
    where
      goes_on :
          (most : ℕ) → rank (suc n) ≤ most
          → chain_within most parents (suc n) ≡ suc n ∷ chain_within most parents (parents (suc n))
      goes_on zero l = absurd (omega (arith, rank-positive (suc n) h))
      goes_on (suc most) l =
          ap (λ ns. suc n ∷ ns) (sym (chain-enough most (parents (suc n)) (fall.parent n h) (omega (arith, rank-parent n h))))

-- ---- sums

-- a path from p over a chain of some members is an edge longer than the chain's
path_of_chain :
    (points : List (Option Point)) (most : ℕ) (parents : ℕ → ℕ) (n : ℕ) (p : Point)
    → length_of_path (p ∷ map (point_of points) (chain_within (suc most) parents n))
    ≡ cost_of (point_of points n) p + length_of_path (map (point_of points) (chain_within (suc most) parents n))
path_of_chain points most parents zero p = refl
path_of_chain points most parents (suc n) p = refl

module _ (costs : ℕ → ℕ) (points : List (Option Point)) (parents : ℕ → ℕ) (fall : FallAlong costs points parents) where
  pub sum-start : sum_by points parents 0 ≡ 0
  sum-start = ap (λ ns. length_of_path (map (point_of points) ns)) (chain-start costs points parents fall)

  -- the sum of a node is its parent's and the edge
  pub sum-parent : (n : ℕ) → IsPresent points (suc n) → sum_by points parents (suc n) ≡ sum_by points parents (parents (suc n)) + edge_by points parents (suc n)
  sum-parent n h =
      let first = ap (λ ns. length_of_path (map (point_of points) ns)) (chain-parent costs points parents fall n h) in
      first ∙ some_chain (node_count points) (omega (arith, rank-positive costs points parents fall (suc n) h, rank-le costs points parents fall (suc n)))
    where
      some_chain :
          (most : ℕ) → 0 < most
          → length_of_path (point_of points (suc n) ∷ map (point_of points) (chain_within most parents (parents (suc n))))
          ≡ length_of_path (map (point_of points) (chain_within most parents (parents (suc n)))) + edge_by points parents (suc n)
      some_chain zero l = absurd (omega arith)
      some_chain (suc most) l = path_of_chain points most parents (parents (suc n)) (point_of points (suc n)) ∙ omega arith

  -- kept costs that are each the parent's and the edge are the sums
  pub sums-tight : AreTightAlong costs points parents → (n : ℕ) → IsPresent points n → sum_by points parents n ≡ costs n
  sums-tight tight n h = below (costs n) n h (omega arith)
    where
      below : (most n : ℕ) → IsPresent points n → costs n ≤ most → sum_by points parents n ≡ costs n
      below most zero h l = sum-start ∙ sym tight.start
      below zero (suc n) h l = absurd (omega (arith, fall.falls n h))
      below (suc most) (suc n) h l =
          let parent = below most (parents (suc n)) (fall.parent n h) (omega (arith, fall.falls n h)) in
          omega (arith, sum-parent n h, parent, tight.edges n h)

  -- and sums are such costs
  pub AreTight-sums : AreTightAlong (sum_by points parents) points parents
  AreTight-sums = record { start = sum-start; edges = sum-parent }
