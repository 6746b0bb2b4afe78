-- What was seen is true of a tree: it stays true while the tree grows, and has ways because the tree has them.
use Rattle.plan_model.proofs.Words.{◌≡◌, ℕ, zero, suc, ◌<◌, ◌≤◌, Option, Some, None, arith, refl, sym, ap, ◌∙◌, subst, inl, inr, ◌≢◌, ◌⊎◌, option_map, Point}
use Rattle.plan_model.proofs.Words.{point_at, point_of, StandsAt, IsPresent, AreDistinct, KeepsOrFalls, goes_right, IsOnWay, FollowWays, SeenTree, IsSeen}
use Rattle.plan_model.proofs.Words.{IsRooted, IsOnSeenWay, HasSeenWay, FollowSeenWays, KeepsOrLowers, HasSeenAtLeast, SharedTree, TreeGrows, seen_whole}
use Rattle.plan_model.proofs.Words.{IsTrueOf}
use Rattle.plan_model.specs.Seen.SeenTrees.IsOnSeenWay.{begins, goes_on}
use Rattle.plan_model.proofs.NewNodes.{IsPresent-stands, StandsAt-present, StandsAt-unique}
use Rattle.plan_model.proofs.SeenTreeLaws.{HasSeenAtLeast-trans}
use Rattle.plan_model.proofs.TreeStateLaws.{IsPresent-grows}
use Rattle.plan_model.proofs.WayLaws.{way_start, last_step, AreDistinct-ways}
use Rattle.plan_model.proofs.WayLinks.{IsOnWay-fills}

-- ---- the whole of a tree

-- those of a present node
pub whole_pair : (tree : SharedTree) (n : ℕ) → IsPresent tree.state.points n
    → (seen_whole tree).parent_and_cost n ≡ Some (tree.state.parent n, tree.state.cost n)
whole_pair tree n h = ap (option_map (λ p. (tree.state.parent n, tree.state.cost n))) (StandsAt-present tree.state.points n h)

-- and of no other number
pub record IsWholePair (tree : SharedTree) (n : ℕ) (pair : ℕ × ℕ) : Type 0 where
  pub present : IsPresent tree.state.points n
  pub same : pair ≡ (tree.state.parent n, tree.state.cost n)

pub whole_pair-present : (tree : SharedTree) (n : ℕ) (pair : ℕ × ℕ) → (seen_whole tree).parent_and_cost n ≡ Some pair → IsWholePair tree n pair
whole_pair-present tree n pair h = by_point (point_at tree.state.points n) refl h
  where
    by_point : (o : Option Point) → point_at tree.state.points n ≡ o
        → option_map (λ p. (tree.state.parent n, tree.state.cost n)) o ≡ Some pair → IsWholePair tree n pair
    by_point None e g = cc
    by_point (Some p) e g = record { present = IsPresent-stands tree.state.points n p e; same = cc }

-- Who sees the whole of a tree sees at least as much when it has grown.
pub seen_whole-grows : (before after : SharedTree) → TreeGrows before after → HasSeenAtLeast (seen_whole before) (seen_whole after)
seen_whole-grows before after grows = record {
  places = record { children = grows.children; nodes = grows.state.nodes };
  pairs = pairs;
  records = grows.state.records;
  counters = grows.counters;
  count = grows.count;
}
  where
    falls : (n : ℕ) (pair : ℕ × ℕ) → pair ≡ (before.state.parent n, before.state.cost n) → KeepsOrFalls before.state after.state n
        → ((after.state.parent n, after.state.cost n) ≡ pair) ⊎ (after.state.cost n < pair.1)
    falls n pair e (inl same) = inl cc
    falls n pair e (inr fell) = inr (omega (arith, fell, ap (λ (t : ℕ × ℕ). t.1) e))

    pairs : (n : ℕ) → KeepsOrLowers (seen_whole before) (seen_whole after) n
    pairs n pair h =
        let was = whole_pair-present before n pair h in
        let still = IsPresent-grows before.state after.state grows.state n was.present in
        ((after.state.parent n, after.state.cost n), whole_pair after n still, falls n pair was.same (grows.state.trees n was.present))

-- ---- true of a tree

-- What is true of a tree stays true when it has grown,
pub IsTrueOf-grows : (seen : SeenTree) (before after : SharedTree) → TreeGrows before after → IsTrueOf seen before → IsTrueOf seen after
IsTrueOf-grows seen before after grows holds =
    HasSeenAtLeast-trans seen (seen_whole before) (seen_whole after) holds (seen_whole-grows before after grows)

-- and so is what less was seen.
pub IsTrueOf-less : (less seen : SeenTree) (tree : SharedTree) → HasSeenAtLeast less seen → IsTrueOf seen tree → IsTrueOf less tree
IsTrueOf-less less seen tree = HasSeenAtLeast-trans less seen (seen_whole tree)

module _ (seen : SeenTree) (tree : SharedTree) (holds : IsTrueOf seen tree) where
  -- A way over seen children and points is a way through the tree.
  pub IsOnWay-true : (q : Point) (depth n : ℕ) → IsOnWay seen.child seen.points q depth n → IsOnWay tree.child tree.state.points q depth n
  IsOnWay-true = IsOnWay-fills seen.child tree.child seen.points tree.state.points holds.places

  -- A node costs no more than was seen.
  pub cost-true : (n : ℕ) (pair : ℕ × ℕ) → seen.parent_and_cost n ≡ Some pair → tree.state.cost n ≤ pair.1
  cost-true n pair h =
      let now = holds.pairs n pair h in
      let whole = whole_pair-present tree n now.0 now.1 in
      no_more now.0 whole.same now.2
    where
      no_more : (now : ℕ × ℕ) → now ≡ (tree.state.parent n, tree.state.cost n) → (now ≡ pair) ⊎ (now.1 < pair.1) → tree.state.cost n ≤ pair.1
      no_more now e (inl same) = omega (arith, ap (λ (t : ℕ × ℕ). t.1) e, ap (λ (t : ℕ × ℕ). t.1) same)
      no_more now e (inr fell) = omega (arith, ap (λ (t : ℕ × ℕ). t.1) e, fell)

  -- No two seen nodes stand at one point.
  pub AreDistinct-true : FollowWays tree.child tree.state.points → AreDistinct seen.points
  AreDistinct-true follow i j p one other =
      AreDistinct-ways tree.child tree.state.points follow i j p (holds.places.nodes i p one) (holds.places.nodes j p other)

  module _ (rooted : IsRooted seen) (follow : FollowWays tree.child tree.state.points) where
    -- A seen node is present.
    pub IsPresent-true : (n : ℕ) → IsSeen seen n → IsPresent tree.state.points n
    IsPresent-true n (inl e) =
        subst (IsPresent tree.state.points) (sym e)
        (IsPresent-stands tree.state.points 0 (point_of seen.points 0)
        (holds.places.nodes 0 (point_of seen.points 0) (StandsAt-present seen.points 0 rooted.start)))
    IsPresent-true n (inr (a, side, link)) = follow.present a n side (holds.places.children a n side link)

    -- The way through the tree to a seen node runs over seen children.
    pub IsOnSeenWay-true : (q : Point) (depth n : ℕ) → IsSeen seen n → IsOnWay tree.child tree.state.points q depth n → IsOnSeenWay seen q depth n
    IsOnSeenWay-true q zero n is_seen way =
        subst (IsOnSeenWay seen q 0) (sym (way_start tree.child tree.state.points q n way)) begins
    IsOnSeenWay-true q (suc depth) n (inl e) way =
        let step = last_step tree.child tree.state.points q depth n way in
        absurd (follow.root step.node (goes_right depth step.point q) (step.link ∙ ap Some e))
    IsOnSeenWay-true q (suc depth) n (inr (a, side, link)) way =
        let step = last_step tree.child tree.state.points q depth n way in
        let same = follow.once n a step.node side (goes_right depth step.point q) (holds.places.children a n side link) step.link in
        let here : seen.child step.node (goes_right depth step.point q) ≡ Some n =
        ap (seen.child step.node) (sym same.1) ∙ ap (λ b. seen.child b side) (sym same.0) ∙ link in
        let above = rooted.children step.node n (goes_right depth step.point q) here in
        let turns : (p : Point) → StandsAt seen.points step.node p → (p ≢ q) × (goes_right depth p q ≡ goes_right depth step.point q) =
        λ p h.
        let point = StandsAt-unique tree.state.points step.node p step.point (holds.places.nodes step.node p h) step.stands in
        ((λ e. step.other (sym point ∙ e)), ap (λ r. goes_right depth r q) point) in
        goes_on depth step.node n (goes_right depth step.point q) (IsOnSeenWay-true q depth step.node above step.on_way) turns here

    has_way : (n : ℕ) → IsSeen seen n → HasSeenWay seen n
    has_way n is_seen =
        let p : Point = point_of tree.state.points n in
        let stands = StandsAt-present tree.state.points n (IsPresent-true n is_seen) in
        let way = follow.on_way n p stands in
        record {
          point = p;
          own = λ r h. StandsAt-unique tree.state.points n r p (holds.places.nodes n r h) stands;
          depth = way.0;
          on_way = IsOnSeenWay-true p way.0 n is_seen way.1;
        }

    -- What is seen follows ways, because the tree does.
    pub FollowSeenWays-true : FollowSeenWays seen
    FollowSeenWays-true = record {
      ways = has_way;
      once = λ n a b left right one other.
          follow.once n a b left right (holds.places.children a n left one) (holds.places.children b n right other);
      root = λ a side h. follow.root a side (holds.places.children a 0 side h);
    }
