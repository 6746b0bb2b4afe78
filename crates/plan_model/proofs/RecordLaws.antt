-- A lawful record stays lawful while the tree grows, if the earlier nodes of the record stay the same.
use Rattle.plan_model.proofs.Words.{◌≡◌, ℕ, suc, ◌≤◌, arith, sym, ap, ◌∙◌, subst, IsTrue, length-digits_of-le, Point, Record, FirstHanging, Reached, NewNode}
use Rattle.plan_model.proofs.Words.{SameNode, NoWay, Ending, Steered, SkippedBy, ending_of, Clear, cost_of, squared_distance, IsNotAbove, distance_to}
use Rattle.plan_model.proofs.Words.{is_within, IsPresent, point_at, point_of, node_count, class_of, radius_of_class, steered, TreeState, GrowsInto}
use Rattle.plan_model.proofs.Words.{most_cost_of, IsEarlier, IsNeighbour, first_cost_through, IsChosenLawfully, HangsLawfully, IsSkippedLawfully}
use Rattle.plan_model.proofs.Words.{ReachesLawfully, HasLawfulEnding, IsLawfulRecord, Setup}
use Rattle.plan_model.proofs.BestNodeLaws.{IsPresent-goal}
use Rattle.plan_model.proofs.ClassLaws.{below_digits}
use Rattle.plan_model.proofs.EarlierNodes.{HaveSameEarlier, earlier_count-same}
use Rattle.plan_model.proofs.GoalNodes.{IsGoalNode-grows, IsGoalNode-before}
use Rattle.plan_model.proofs.NewNodes.{IsPresent-stands}
use Rattle.plan_model.proofs.OrderLaws.{most_cost_of-le, Hangs-grows}
use Rattle.plan_model.proofs.TreeStateLaws.{IsPresent-grows, point_at-grows, point_of-grows, StandsAt-before, cost-grows, node_count-grows}

-- more nodes have no smaller class
pub class_of-le : (m n : ℕ) → m ≤ n → class_of m ≤ class_of n
class_of-le m n h = length-digits_of-le 2 (class_of n) m (omega arith) (omega (arith, below_digits n, h))

-- what is nearer to a mark stays so
pub IsNotAbove-grows :
    (before after : TreeState) (grows : GrowsInto before after) (mark : Point) (m i : ℕ) → IsPresent before.points m → IsPresent before.points i
    → IsNotAbove (distance_to mark before.points) m i → IsNotAbove (distance_to mark after.points) m i
IsNotAbove-grows before after grows mark m i own here h =
    let near = ap (λ a. squared_distance a mark) (point_of-grows before after grows m own) in
    let other = ap (λ a. squared_distance a mark) (point_of-grows before after grows i here) in
    record { least = omega (arith, near, other, h.least); first = λ e. h.first (omega (arith, near, other, e)) }

-- the goal node by which a mark was skipped stays one, and costs no more
pub IsSkippedLawfully-grows :
    (setup : Setup) (before after : TreeState) (grows : GrowsInto before after) (mark : Point) (g : ℕ)
    → IsSkippedLawfully setup before mark g → IsSkippedLawfully setup after mark g
IsSkippedLawfully-grows setup before after grows mark g h =
    let here = IsPresent-goal setup.goals (point_at before.points g) h.goal in
    record {
      goal = IsGoalNode-grows setup.goals before after grows g h.goal;
      within = omega (arith, h.within, cost-grows before after grows g here);
    }

module _ (setup : Setup) (before after : TreeState) (grows : GrowsInto before after) (entry : Record) (same : HaveSameEarlier before after entry) where
  was_earlier : (i : ℕ) → IsEarlier after entry i → IsEarlier before entry i
  was_earlier i h = sym (same.same i) ∙ h

  same_point : (i : ℕ) → IsPresent before.points i → point_of after.points i ≡ point_of before.points i
  same_point i h = point_of-grows before after grows i h

  same_edge : (p : Point) (i : ℕ) → IsPresent before.points i → cost_of (point_of after.points i) p ≡ cost_of (point_of before.points i) p
  same_edge p i h = ap (λ a. cost_of a p) (same_point i h)

  same_through : (p : Point) (i : ℕ) → IsPresent before.points i → first_cost_through after p i ≡ first_cost_through before p i
  same_through p i h = omega (arith, grows.first_costs i h, same_edge p i h)

  bound_rises : most_cost_of setup (node_count before.points) ≤ most_cost_of setup (node_count after.points)
  bound_rises = most_cost_of-le setup (node_count before.points) (node_count after.points) (node_count-grows before after grows)

  -- ---- placed marks

  -- no neighbour is new
  IsNeighbour-before : (class : ℕ) (p : Point) (i : ℕ) → IsNeighbour setup after entry class p i → IsNeighbour setup before entry class p i
  IsNeighbour-before class p i h =
      let early = was_earlier i h.earlier in
      let here = same.present i early in
      record {
        earlier = early;
        near = subst (λ o. IsTrue (is_within p (radius_of_class setup.step setup.gamma class) o)) (point_at-grows before after grows i here) h.near;
        clear = subst (λ a. Clear setup.space a p) (same_point i here) h.clear;
      }

  -- what the worker knows stays true
  pub IsChosenLawfully-grows :
      (m : ℕ) (first : FirstHanging) (p : Point) (nodes later : ℕ) → nodes ≤ later → IsPresent before.points m
      → IsChosenLawfully setup before entry m first p nodes → IsChosenLawfully setup after entry m first p later
  IsChosenLawfully-grows m first p nodes later more nearest h = record {
    clear = subst (λ a. Clear setup.space a p) (sym (same_point m nearest)) h.clear;
    of_class = record {
      low = omega (arith, ap class_of (earlier_count-same before after entry grows same), h.of_class.low);
      high = omega (arith, h.of_class.high, class_of-le nodes later more);
    };
    chosen = λ i n.
        let was = IsNeighbour-before first.class p i n in
        omega (arith, h.chosen i was, same_through p i (same.present i was.earlier));
    rewired = λ i n.
        let was = IsNeighbour-before first.class p i n in
        let here = same.present i was.earlier in
        omega (arith, h.rewired i was, cost-grows before after grows i here, same_edge p i here);
  }

  -- and what the tree knows
  pub HangsLawfully-grows :
      (k m : ℕ) (first : FirstHanging) (p : Point) → IsPresent before.points m
      → HangsLawfully setup before k m first p → HangsLawfully setup after k m first p
  HangsLawfully-grows k m first p nearest h = record {
    stands = grows.nodes (suc k) p h.stands;
    hangs = Hangs-grows setup before after grows (suc k) p first.parent first.cost h.hangs;
    nearest_other = h.nearest_other;
    below_first = omega (arith, h.below_first, same_through p first.parent h.hangs.present);
    below_nearest = omega (arith, h.below_nearest, same_through p m nearest);
    bounded = omega (arith, h.bounded, bound_rises);
    kept = omega (arith, h.kept, cost-grows before after grows (suc k) (IsPresent-stands before.points (suc k) p h.stands));
  }

  -- ---- the law

  -- what was reached stays so: the segment stays blocked, and no earlier node comes to stand at p
  pub ReachesLawfully-grows :
      (k m : ℕ) (reached : Reached) (p : Point) → IsPresent before.points m
      → ReachesLawfully setup before k entry m reached p → ReachesLawfully setup after k entry m reached p
  ReachesLawfully-grows k m (NewNode first) p nearest h = record {
    by_worker =
        IsChosenLawfully-grows m first p (node_count before.points) (node_count after.points) (node_count-grows before after grows) nearest
        h.by_worker;
    by_tree = HangsLawfully-grows k m first p nearest h.by_tree;
  }
  ReachesLawfully-grows k m (SameNode j) p nearest h = grows.nodes j p h
  ReachesLawfully-grows k m NoWay p nearest h = record {
    blocked = λ clear. h.blocked (subst (λ a. Clear setup.space a p) (same_point m nearest) clear);
    free = λ i early stands.
        let was = was_earlier i early in
        h.free i was (StandsAt-before before after grows i p (same.present i was) stands);
  }

  -- the nearest node stays so, and steers to the same point
  pub HasLawfulEnding-grows :
      (k : ℕ) (mark : Point) (ending : Ending) → HasLawfulEnding setup before k mark entry ending → HasLawfulEnding setup after k mark entry ending
  HasLawfulEnding-grows k mark (Steered m reached) h = record {
    cheaper = λ i early goal.
        let was = was_earlier i early in
        let here = same.present i was in
        omega (arith, h.cheaper i was (IsGoalNode-before setup.goals before after grows i here goal), grows.first_costs i here);
    present = IsPresent-grows before after grows m h.present;
    nearest = λ i early.
        let was = was_earlier i early in
        IsNotAbove-grows before after grows mark m i h.present (same.present i was) (h.nearest i was);
    outcome =
        subst (λ a. ReachesLawfully setup after k entry m reached (steered a mark setup.step)) (sym (same_point m h.present))
        (ReachesLawfully-grows k m reached (steered (point_of before.points m) mark setup.step) h.present h.outcome);
  }
  HasLawfulEnding-grows k mark (SkippedBy g) h = IsSkippedLawfully-grows setup before after grows mark g h

  -- A lawful record stays lawful.
  pub IsLawfulRecord-grows : (k : ℕ) (mark : Point) → IsLawfulRecord setup before k mark entry → IsLawfulRecord setup after k mark entry
  IsLawfulRecord-grows k mark h = HasLawfulEnding-grows k mark (ending_of entry) h
