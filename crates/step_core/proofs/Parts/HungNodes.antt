-- From what a view has seen of parents and costs to the tree now: a node may hang where it was seen that it may, since no cost rises.
use Rattle.step_core.proofs.Words.{◌≡◌, ◌≢◌, ◌<◌, ◌≤◌, ◌^◌, ◌∙◌, ℕ, suc, true, sym, ap, subst, inl, inr, arith, is_some, cost_of, Hangs, IsAllowedEdge}
use Rattle.step_core.proofs.Words.{most_cost_of, IsPresent, StandsAt, node_count, point_of, AreSeenLawfully, GrowsInto, TreeState, first_cost_of, FollowWays}
use Rattle.step_core.proofs.Words.{Point, MOST_NODES, IsPresent-stands, node_count-some, point_of-stands, Hangs-grows, cost_of-short, most_cost_of-le}
use Rattle.step_core.proofs.Words.{most_cost_of-more, most_cost_of-within, IsPresent-grows, node_count-grows, point_of-grows, children_of_words, is_linked}
use Rattle.step_core.proofs.Words.{AreBehind, Words, FirstOf, TreeOf, cost_in, parent_in, tree_word, linked_points, IsCostBelow, MayHang, MayLower, SeesCost}
use Rattle.step_core.proofs.Words.{SeesTree, IsSharedRun, run_sizes, sees, setup_in, tree_seen, IsFirstOf, Trees, state_in, Hand, Half, View, SharedRun}
use Rattle.step_core.proofs.OneView.LawfulSights.{tree_of_word-written, IsTrueOf-seen, is_linked-seen}
use Rattle.step_core.proofs.Seen.SeenWords.{linked-within}

-- a parent at a cost by which a node may be lowered now
pub record IsLowered (run : SharedRun) (words : Words) (n parent cost : ℕ) : Type 0 where
  pub linked : is_linked (run_sizes run) words n ≡ true
  pub present : IsPresent (linked_points (run_sizes run) words) n
  pub fits : (parent < 2 ^ 18) × (cost < 2 ^ 44)
  pub hangs : Hangs (setup_in run) (state_in run words) n (point_of (linked_points (run_sizes run) words) n) parent cost

module _ (view : View) (words : Words) (behind : AreBehind (sees view) words) (tree : SeesTree view)
    (follow : FollowWays (children_of_words words) (linked_points (run_sizes view.run) words)) (run_is : IsSharedRun view.run)
    (trees : Trees view.run words) (pairs : AreSeenLawfully (setup_in view.run) (tree_seen view) (state_in view.run words))
    (few : node_count (linked_points (run_sizes view.run) words) ≤ MOST_NODES) where
  abbrev now : TreeState
  now = state_in view.run words

  stays : (n : ℕ) (p : Point) (cost : ℕ) → SeesCost view n p cost → StandsAt now.points n p
  stays n p cost seen = (IsTrueOf-seen view words behind tree follow).places.nodes n p seen.stands

  here : (n : ℕ) (p : Point) (cost : ℕ) → SeesCost view n p cost → IsPresent now.points n
  here n p cost seen = IsPresent-stands now.points n p (stays n p cost seen)

  at : (n : ℕ) (p : Point) (cost : ℕ) → SeesCost view n p cost → point_of now.points n ≡ p
  at n p cost seen = point_of-stands now.points n p (stays n p cost seen)

  -- a node costs no more now than it was seen to
  pub cost-now : (n : ℕ) (p : Point) (cost : ℕ) → SeesCost view n p cost → now.cost n ≤ cost
  cost-now n p cost seen =
      elim (behind (TreeOf n)) [
        | inl none ↦ absurd (omega (arith, none, seen.written))
        | inr falls ↦ elim falls [
          | inl same ↦ omega (arith, seen.cost_is, ap cost_in same)
          | inr fell ↦ omega (seen.cost_is, fell.1, arith)
        ]
      ]

  -- and was placed at no less
  pub cost-first : (n : ℕ) (p : Point) (cost : ℕ) → SeesCost view n p cost → cost ≤ first_cost_of now n
  cost-first n p cost seen =
      omega (
        arith,
        seen.cost_is,
        pairs.first n (parent_in (sees view (TreeOf n)), cost_in (sees view (TreeOf n))) (tree_of_word-written (sees view (TreeOf n)) seen.written),
      )

  -- so a node may hang below a parent that was seen, whatever that costs by now
  pub Hangs-below : (n : ℕ) (p : Point) (parent cost : ℕ) → IsCostBelow view p parent cost → parent ≢ n → Hangs (setup_in view.run) now n p parent cost
  Hangs-below n p parent cost below apart =
      let same = at parent below.from below.parent_cost below.seen in
      record {
        present = here parent below.from below.parent_cost below.seen;
        other = apart;
        edge = subst (λ q. IsAllowedEdge (setup_in view.run) q p) (sym same) below.edge;
        above = omega (arith, cost-now parent below.from below.parent_cost below.seen, below.cost_is, ap (λ q. cost_of q p) same);
      }

  -- at a cost within the bound of a node more
  within_more : (p : Point) (parent cost : ℕ) → IsCostBelow view p parent cost → cost ≤ most_cost_of (setup_in view.run) (suc (node_count now.points))
  within_more p parent cost below =
      let present = here parent below.from below.parent_cost below.seen in
      omega (
        arith,
        below.cost_is,
        cost-first parent below.from below.parent_cost below.seen,
        trees.first_costs.bounded parent present,
        cost_of-short below.from p view.run.step below.edge.short,
        most_cost_of-more (setup_in view.run) (node_count now.points) (node_count-some now.points parent present),
      )

  -- Both fit a word.
  pub fits-below : (p : Point) (parent cost : ℕ) → IsCostBelow view p parent cost → (parent < 2 ^ 18) × (cost < 2 ^ 44)
  fits-below p parent cost below =
      let present = here parent below.from below.parent_cost below.seen in (
        omega (arith, linked-within (run_sizes view.run) words parent present, run_is.marks),
        omega (
          arith,
          below.cost_is,
          cost-first parent below.from below.parent_cost below.seen,
          trees.first_costs.bounded parent present,
          most_cost_of-within (setup_in view.run) (node_count now.points) run_is.step few,
          cost_of-short below.from p view.run.step below.edge.short,
          run_is.step,
        ),
      )

  -- ---- the node in hand

  -- Once its first word is written, it is what the law says of it.
  pub IsFirstOf-hang :
      (after : Words) (hand : Hand) (parent cost : ℕ) → MayHang view hand parent cost → parent ≢ suc hand.mark → GrowsInto now (state_in view.run after)
      → after (FirstOf (suc hand.mark)) ≡ tree_word parent cost → IsFirstOf view.run after (record hand { stage = Half; parent = parent; cost = cost })
  IsFirstOf-hang after hand parent cost may apart grows written =
      let next : TreeState = state_in view.run after in
      let below = may.below in
      let present = here parent below.from below.parent_cost below.seen in
      let nearest = here hand.nearest may.nearest_at may.nearest_cost may.nearest in
      record {
        word = written;
        fits = fits-below hand.point parent cost below;
        hangs =
            Hangs-grows (setup_in view.run) now next grows (suc hand.mark) hand.point parent cost
            (Hangs-below (suc hand.mark) hand.point parent cost below apart);
        below_first =
            omega (
              arith,
              below.cost_is,
              cost-first parent below.from below.parent_cost below.seen,
              grows.first_costs parent present,
              ap (λ q. cost_of q hand.point) (point_of-grows now next grows parent present ∙ at parent below.from below.parent_cost below.seen),
            );
        nearest = IsPresent-grows now next grows hand.nearest nearest;
        below_nearest =
            omega (
              arith,
              may.chosen,
              cost-first hand.nearest may.nearest_at may.nearest_cost may.nearest,
              grows.first_costs hand.nearest nearest,
              ap (λ q. cost_of q hand.point) (point_of-grows now next grows hand.nearest nearest ∙ at hand.nearest may.nearest_at may.nearest_cost may.nearest),
            );
        bounded =
            omega (
              arith,
              within_more hand.point parent cost below,
              most_cost_of-le (setup_in view.run) (suc (node_count now.points)) (suc (node_count next.points)) (omega (arith, node_count-grows now next grows)),
            );
      }

  -- ---- a node that is lowered

  pub IsLowered-seen : (n parent cost : ℕ) → MayLower view n parent cost → IsLowered view.run words n parent cost
  IsLowered-seen n parent cost may = record {
    linked = is_linked-seen view words behind tree follow n (tree.rooted.points n (ap is_some may.seen.stands));
    present = here n may.at may.old_cost may.seen;
    fits = fits-below may.at parent cost may.below;
    hangs =
        subst (λ q. Hangs (setup_in view.run) now n q parent cost) (sym (at n may.at may.old_cost may.seen))
        (Hangs-below n may.at parent cost may.below apart);
  }
    where
      -- its parent is another node, since that costs less
      apart : parent ≢ n
      apart e = omega (arith, may.cheaper, may.below.cost_is, may.below.seen.cost_is, may.seen.cost_is, ap (λ m. cost_in (sees view (TreeOf m))) e)
