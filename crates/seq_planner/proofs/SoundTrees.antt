-- A tree with its kept costs stays sound if a node, or an absent one, is put at its end.
use Rattle.seq_planner.proofs.Words.{◌≡◌, ℕ, ◌+◌, ◌<◌, ◌≤◌, List, [], ◌∷◌, ◌++◌, length, get_or, Option, Some, None, arith, sym, ap, ◌∙◌, subst, inl, inr}
use Rattle.seq_planner.proofs.Words.{get_or-append_seam, is_some, option_map, get_or_append_left, get_or_past, length-map, count_by-le-length, cases_order}
use Rattle.seq_planner.proofs.Words.{Point, Twig, IsBounded, StandsAt, IsPresent, point_of, node_count, points_of, parent_of, sum_of, Nodes, points_of-push}
use Rattle.seq_planner.proofs.Words.{node_count-push, node_at-absent, Adds, Adds-push, AreDistinct-adds, StandsAt-present, node_count-some, new_or_kept}
use Rattle.seq_planner.proofs.Words.{point_at-same, present_below, CostsFall-same, AreTight-same, CostsFall-adds, AreTight-adds, KeepsCosts, IsPriced}
use Rattle.seq_planner.proofs.Words.{AddsPriced, sums-tight, PlacedPoints, ArePlaced, AreBounded, IsSound, Fits, most_cost}
use Rattle.std.proofs.Common.{length-append}

-- ---- kept costs of a longer list

kept_before : (costs : List ℕ) (cost n : ℕ) → n < length costs → get_or (costs ++ cost ∷ []) n 0 ≡ get_or costs n 0
kept_before costs cost n l = get_or_append_left costs (cost ∷ []) 0 n l

kept_last : (costs : List ℕ) (cost n : ℕ) → n ≡ length costs → get_or (costs ++ cost ∷ []) n 0 ≡ cost
kept_last costs cost n e = ap (λ i. get_or (costs ++ cost ∷ []) i 0) e ∙ get_or-append_seam costs cost [] 0

-- the present nodes keep their costs
keeps_costs :
    (tree : Nodes) (costs : List ℕ) (cost : ℕ) → length costs ≡ length tree
    → KeepsCosts tree (λ n. get_or costs n 0) (λ n. get_or (costs ++ cost ∷ []) n 0)
keeps_costs tree costs cost e = λ n h. kept_before costs cost n (omega (arith, present_below tree n h))

-- no cost passes what none passed before
within_put : (costs : List ℕ) (cost most n : ℕ) → ((m : ℕ) → get_or costs m 0 ≤ most) → cost ≤ most → get_or (costs ++ cost ∷ []) n 0 ≤ most
within_put costs cost most n h low = elim (cases_order n (length costs)) [
  | inl e ↦ omega (arith, kept_last costs cost n e)
  | inr (inl l) ↦ omega (arith, kept_before costs cost n l, h n)
  | inr (inr past) ↦ omega (arith, get_or_past (costs ++ cost ∷ []) n 0 (omega (arith, length-append costs (cost ∷ []))))
]

-- ---- an absent node

at_absent : (tree : Nodes) (n : ℕ) (p : Point) → StandsAt (points_of (tree ++ None ∷ [])) n p → StandsAt (points_of tree) n p
at_absent tree n p h = sym (point_at-same (tree ++ None ∷ []) tree n (node_at-absent tree n)) ∙ h

-- a mark that is not placed puts an absent node at the end, at no cost
pub IsSound-absent :
    (tree : Nodes) (costs : List ℕ) (placed after : PlacedPoints) → IsSound tree costs placed
    → ArePlaced (points_of (tree ++ None ∷ [])) after → IsSound (tree ++ None ∷ []) (costs ++ 0 ∷ []) after
IsSound-absent tree costs placed after h are =
    let before : ℕ → ℕ = λ n. get_or costs n 0 in
    let later : ℕ → ℕ = λ n. get_or (costs ++ 0 ∷ []) n 0 in
    let longer : Nodes = tree ++ None ∷ [] in
    let keeps = keeps_costs tree costs 0 h.cost_count in
    let count : node_count (points_of longer) ≡ node_count (points_of tree) =
    omega (arith, ap node_count (points_of-push tree None), node_count-push (points_of tree) None) in
    record {
      falling = CostsFall-same before later tree longer (node_at-absent tree) keeps h.falling;
      tight = AreTight-same before later tree longer (node_at-absent tree) keeps h.falling h.tight;
      distinct = λ i j p one other. h.distinct i j p (at_absent tree i p one) (at_absent tree j p other);
      bounded = λ n p own. h.bounded n p (at_absent tree n p own);
      are_placed = are;
      cost_count = omega (arith, length-append tree (None ∷ []), length-append costs (0 ∷ []), h.cost_count);
      cost_bound = λ n. omega (arith, count, within_put costs 0 (most_cost (points_of tree)) n h.cost_bound (omega arith));
    }

-- ---- one more node

-- a kept cost is the node's sum
pub kept_sum :
    (tree : Nodes) (costs : List ℕ) (placed : PlacedPoints) (n : ℕ) → IsSound tree costs placed → IsPresent (points_of tree) n
    → sum_of tree n ≡ get_or costs n 0
kept_sum tree costs placed n h own = sums-tight (λ n. get_or costs n 0) (points_of tree) (parent_of tree) h.falling h.tight n own

priced :
    (tree : Nodes) (costs : List ℕ) (placed : PlacedPoints) (node : Twig) (cost price : ℕ) → IsSound tree costs placed → Fits tree (Some node) cost
    → price ≡ cost → IsPriced tree (λ n. get_or costs n 0) node price
priced tree costs placed node cost price h new e = record {
  parent = new.0;
  apart = λ same. new.1 node.parent (StandsAt-present (points_of tree) node.parent new.0 ∙ ap Some same);
  cost = omega (arith, e, new.3, kept_sum tree costs placed node.parent h new.0);
}

bounded_put :
    (tree : Nodes) (node : Twig) → AreBounded (points_of tree) → IsBounded node.point → AreBounded (points_of (tree ++ Some node ∷ []))
bounded_put tree node h own = λ n p stands.
    elim (new_or_kept tree (length tree) node (tree ++ Some node ∷ []) (Adds-push tree node) n p stands) [
      | inl here ↦ subst IsBounded (sym here.1) own
      | inr before ↦ h n p before
    ]

-- a node that fits stands at the end, at its cost
pub IsSound-node :
    (tree : Nodes) (costs : List ℕ) (placed after : PlacedPoints) (node : Twig) (cost : ℕ) → IsSound tree costs placed
    → Fits tree (Some node) cost
    → ArePlaced (points_of (tree ++ Some node ∷ [])) after → IsSound (tree ++ Some node ∷ []) (costs ++ cost ∷ []) after
IsSound-node tree costs placed after node cost h new are =
    let before : ℕ → ℕ = λ n. get_or costs n 0 in
    let later : ℕ → ℕ = λ n. get_or (costs ++ cost ∷ []) n 0 in
    let longer : Nodes = tree ++ Some node ∷ [] in
    let adds : Adds tree (length tree) node longer = Adds-push tree node in
    let more : AddsPriced before later tree longer (length tree) node = record {
      adds = adds;
      keeps = keeps_costs tree costs cost h.cost_count;
      priced = priced tree costs placed node cost (later (length tree)) h new (kept_last costs cost (length tree) (sym h.cost_count));
    } in
    let some = node_count-some (points_of tree) 0 h.falling.start in
    let count : node_count (points_of longer) ≡ node_count (points_of tree) + 1 =
    omega (arith, ap node_count (points_of-push tree (Some node)), node_count-push (points_of tree) (Some node.point)) in
    record {
      falling = CostsFall-adds before later tree longer (length tree) node more h.falling h.tight;
      tight = AreTight-adds before later tree longer (length tree) node more h.falling h.tight;
      distinct = AreDistinct-adds tree (length tree) node longer adds h.distinct new.1;
      bounded = bounded_put tree node h.bounded new.2;
      are_placed = are;
      cost_count = omega (arith, length-append tree (Some node ∷ []), length-append costs (cost ∷ []), h.cost_count);
      cost_bound = λ n.
          within_put costs cost (most_cost (points_of longer)) n (λ m. omega (arith, h.cost_bound m, some, count))
          (omega (arith, new.4, some, count));
    }

-- the same lists are sound
pub IsSound-same :
    (tree after : Nodes) (costs later : List ℕ) (placed : PlacedPoints) → after ≡ tree → later ≡ costs → IsSound tree costs placed
    → IsSound after later placed
IsSound-same tree after costs later placed e f h =
    let P : Nodes → Type 0 = λ nodes. IsSound nodes later placed in
    let Q : List ℕ → Type 0 = λ kept. IsSound tree kept placed in
    subst P (sym e) (subst Q (sym f) h)

-- what fits is put at the end
pub IsSound-put :
    (tree : Nodes) (costs : List ℕ) (placed later : PlacedPoints) (node : Option Twig) (cost : ℕ) → IsSound tree costs placed → Fits tree node cost
    → ArePlaced (points_of (tree ++ node ∷ [])) later → IsSound (tree ++ node ∷ []) (costs ++ cost ∷ []) later
IsSound-put tree costs placed later None cost h fits are =
    let Q : ℕ → Type 0 = λ c. IsSound (tree ++ None ∷ []) (costs ++ c ∷ []) later in
    subst Q (sym fits) (IsSound-absent tree costs placed later h are)
IsSound-put tree costs placed later (Some node) cost h fits are = IsSound-node tree costs placed later node cost h fits are

-- ---- what a sound tree has

-- the start is present, so there is a node
pub some_present : (tree : Nodes) (costs : List ℕ) (placed : PlacedPoints) → IsSound tree costs placed → 1 ≤ node_count (points_of tree)
some_present tree costs placed h = node_count-some (points_of tree) 0 h.falling.start

-- there are at most as many nodes as numbers
pub few_present : (tree : Nodes) → node_count (points_of tree) ≤ length tree
few_present tree = omega (arith, count_by-le-length is_some (points_of tree), length-map tree (option_map (λ node. node.point)))

-- distances can be taken from a present node of a sound tree
pub IsBounded-present :
    (tree : Nodes) (costs : List ℕ) (placed : PlacedPoints) (n : ℕ) (p : Point) → IsSound tree costs placed
    → IsPresent (points_of tree) n → p ≡ point_of (points_of tree) n → IsBounded p
IsBounded-present tree costs placed n p h own e =
    h.bounded n p (StandsAt-present (points_of tree) n own ∙ ap Some (sym e))
