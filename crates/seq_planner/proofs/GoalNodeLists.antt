-- The list of the nodes that lie in a goal, as a tree grows by one number after another.
use Rattle.seq_planner.proofs.Words.{◌≡◌, ℕ, ◌+◌, ◌<◌, ◌≤◌, Bool, true, false, List, [], ◌∷◌, ◌++◌, length, get_or, Option, Some, None, refl, sym, ap, ◌∙◌}
use Rattle.seq_planner.proofs.Words.{subst, arith, inl, inr, Contains, IsTrue, cond, option_map, cases_eq, get_or_append_left, get_or_default, length-map}
use Rattle.seq_planner.proofs.Words.{All-contains, All-push, All-weaker, Contains-append_left, Contains-push, Goal, Point, ending_of, Scene, Twig, MayBeCheaper}
use Rattle.seq_planner.proofs.Words.{Nodes, mark_bound, setup_of, skipping_goals, IsGoalNode, is_goal_point, lies_in_goals, IsFirstLeast, IsNotAbove, node_at}
use Rattle.seq_planner.proofs.Words.{points_of, sum_of, point_at, IsPresent-goal, points_of-ends, no_goal_node, StandsAt-node, present_below, point_at-absent}
use Rattle.seq_planner.proofs.Words.{AreGoalNodesBelow, IsGoalNodeBelow, SearchTree, GrowsByMark, IsSkippedBy, IsSoundTree}
use Rattle.plan_model.specs.Trees.BestNode.{bound_of}
use Rattle.seq_planner.proofs.SoundTrees.{kept_sum}

-- ---- one mark more

-- the points of a tree are as many as its numbers
points_count : (tree : Nodes) → length (points_of tree) ≡ length tree
points_count tree = length-map tree (option_map (λ (node : Twig). node.point))

-- so the numbers before it have the same points
pub point_at-grown :
    (scene : Scene) (tree after : SearchTree) (mark : Point) → GrowsByMark scene tree mark after → (n : ℕ) → n < length tree.nodes
    → point_at (points_of after.nodes) n ≡ point_at (points_of tree.nodes) n
point_at-grown scene tree after mark grows n below =
    let points =
    points_of-ends (setup_of scene) tree.nodes (length tree.records.items) mark (ending_of grows.entry) after.nodes grows.handled.ends in
    ap (λ ps. point_at ps n) points.1
    ∙ get_or_append_left (points_of tree.nodes) (points.0 ∷ []) None n (omega (arith, below, points_count tree.nodes))

-- and those of them that lie in a goal are the same
pub AreGoalNodesBelow-grown :
    (goals : List Goal) (scene : Scene) (tree after : SearchTree) (mark : Point) (numbers : List ℕ) → GrowsByMark scene tree mark after
    → AreGoalNodesBelow goals (points_of tree.nodes) (length tree.nodes) numbers
    → AreGoalNodesBelow goals (points_of after.nodes) (length tree.nodes) numbers
AreGoalNodesBelow-grown goals scene tree after mark numbers grows h =
    let same : (n : ℕ) → n < length tree.nodes → point_at (points_of after.nodes) n ≡ point_at (points_of tree.nodes) n =
    point_at-grown scene tree after mark grows in
    record {
      listed = λ n own.
          h.listed n (record { below = own.below; goal = subst (λ o. IsTrue (is_goal_point goals o)) (same n own.below) own.goal });
      goal_nodes =
          All-weaker (IsGoalNodeBelow goals (points_of tree.nodes) (length tree.nodes))
          (IsGoalNodeBelow goals (points_of after.nodes) (length tree.nodes))
          (λ n own. record {
            below = own.below;
            goal = subst (λ o. IsTrue (is_goal_point goals o)) (sym (same n own.below)) own.goal;
          }) numbers h.goal_nodes;
    }

-- ---- the last number

module _ (goals : List Goal) (points : List (Option Point)) (k : ℕ) (numbers : List ℕ) (h : AreGoalNodesBelow goals points k numbers) where
  -- it is listed if it lies in a goal,
  pub AreGoalNodesBelow-listed : IsGoalNode goals points k → AreGoalNodesBelow goals points (k + 1) (numbers ++ k ∷ [])
  AreGoalNodesBelow-listed goal = record {
    listed = λ n own.
        elim (cases_eq n k) [
          | inl e ↦ subst (Contains (numbers ++ k ∷ [])) (sym e) (Contains-push numbers k)
          | inr apart ↦
              Contains-append_left numbers (k ∷ []) n (h.listed n (record { below = omega (arith, own.below, apart); goal = own.goal }))
        ];
    goal_nodes =
        All-push (IsGoalNodeBelow goals points (k + 1)) numbers k
        (All-weaker (IsGoalNodeBelow goals points k) (IsGoalNodeBelow goals points (k + 1))
        (λ n own. record { below = omega (arith, own.below); goal = own.goal }) numbers h.goal_nodes)
        (record { below = omega arith; goal = goal });
  }

  -- and is not if it does not
  pub AreGoalNodesBelow-passed : is_goal_point goals (point_at points k) ≡ false → AreGoalNodesBelow goals points (k + 1) numbers
  AreGoalNodesBelow-passed none = record {
    listed = λ n own.
        elim (cases_eq n k) [
          | inl e ↦ (
              let goal : IsGoalNode goals points k = subst (IsGoalNode goals points) e own.goal in
              let no = sym none ∙ goal in
              cc)
          | inr apart ↦ h.listed n (record { below = omega (arith, own.below, apart); goal = own.goal })
        ];
    goal_nodes =
        All-weaker (IsGoalNodeBelow goals points k) (IsGoalNodeBelow goals points (k + 1))
        (λ n own. record { below = omega (arith, own.below); goal = own.goal }) numbers h.goal_nodes;
  }

-- the last number of a tree, by its node
module _
    (goals : List Goal) (nodes : Nodes) (k : ℕ) (numbers : List ℕ) (h : AreGoalNodesBelow goals (points_of nodes) k numbers)
    (last : k + 1 ≡ length nodes) where
  pub AreGoalNodesBelow-in_goal :
      (node : Twig) → node_at nodes k ≡ Some node → lies_in_goals goals node.point ≡ true
      → AreGoalNodesBelow goals (points_of nodes) (length nodes) (numbers ++ k ∷ [])
  AreGoalNodesBelow-in_goal node is inside =
      subst (λ n. AreGoalNodesBelow goals (points_of nodes) n (numbers ++ k ∷ [])) last
      (AreGoalNodesBelow-listed goals (points_of nodes) k numbers h (ap (is_goal_point goals) (StandsAt-node nodes k node is) ∙ inside))

  pub AreGoalNodesBelow-beside :
      (node : Twig) → node_at nodes k ≡ Some node → lies_in_goals goals node.point ≡ false
      → AreGoalNodesBelow goals (points_of nodes) (length nodes) numbers
  AreGoalNodesBelow-beside node is outside =
      subst (λ n. AreGoalNodesBelow goals (points_of nodes) n numbers) last
      (AreGoalNodesBelow-passed goals (points_of nodes) k numbers h (ap (is_goal_point goals) (StandsAt-node nodes k node is) ∙ outside))

  pub AreGoalNodesBelow-absent : node_at nodes k ≡ None → AreGoalNodesBelow goals (points_of nodes) (length nodes) numbers
  AreGoalNodesBelow-absent is =
      subst (λ n. AreGoalNodesBelow goals (points_of nodes) n numbers) last
      (AreGoalNodesBelow-passed goals (points_of nodes) k numbers h (ap (is_goal_point goals) (point_at-absent nodes k is)))

-- a scene that is not informed has no goal by which marks are skipped, and an informed one its goals
pub skipping_goals-by : (scene : Scene) (informed : Bool) → scene.informed ≡ informed → skipping_goals scene ≡ cond informed scene.goals []
skipping_goals-by scene informed is = ap (λ b. cond b scene.goals []) is

-- ---- skipping

-- in a scene with a goal by which marks are skipped these are its goals
pub skipping_goals-some :
    (scene : Scene) (points : List (Option Point)) (n : ℕ) → IsGoalNode (skipping_goals scene) points n → skipping_goals scene ≡ scene.goals
skipping_goals-some scene points n goal = by_informed scene.informed refl goal
  where
    by_informed : (b : Bool) → scene.informed ≡ b → IsGoalNode (cond b scene.goals []) points n → skipping_goals scene ≡ scene.goals
    by_informed true e own = ap (λ b. cond b scene.goals []) e
    by_informed false e own = absurd (no_goal_node points n own)

module _
    (scene : Scene) (tree : SearchTree) (mark : Point) (numbers : List ℕ) (sound : IsSoundTree tree)
    (listed : AreGoalNodesBelow (skipping_goals scene) (points_of tree.nodes) (length tree.nodes) numbers) where
  -- a goal node is listed
  listed_all : (n : ℕ) → IsGoalNode (skipping_goals scene) (points_of tree.nodes) n → Contains numbers n
  listed_all n goal =
      let here = IsPresent-goal (skipping_goals scene) (point_at (points_of tree.nodes) n) goal in
      listed.listed n (record { below = present_below tree.nodes n here; goal = goal })

  module _ (best : ℕ) (least : IsFirstLeast (λ n. get_or tree.costs.items n 0) (Contains numbers) best) where
    goal_of : (n : ℕ) → Contains numbers n → IsGoalNode (skipping_goals scene) (points_of tree.nodes) n
    goal_of n own =
        (All-contains (IsGoalNodeBelow (skipping_goals scene) (points_of tree.nodes) (length tree.nodes)) numbers n listed.goal_nodes own).goal

    sum_is : (n : ℕ) → IsGoalNode (skipping_goals scene) (points_of tree.nodes) n → sum_of tree.nodes n ≡ get_or tree.costs.items n 0
    sum_is n goal =
        kept_sum tree.nodes tree.costs.items tree.placed n sound (IsPresent-goal (skipping_goals scene) (point_at (points_of tree.nodes) n) goal)

    -- the least of the listed ones is the best goal node
    pub best_goal : IsGoalNode (skipping_goals scene) (points_of tree.nodes) best
    best_goal = goal_of best least.member

    not_above : (i : ℕ) → IsGoalNode (skipping_goals scene) (points_of tree.nodes) i → IsNotAbove (sum_of tree.nodes) best i
    not_above i goal =
        let own = least.not_above i (listed_all i goal) in
        let here = sum_is best best_goal in
        let there = sum_is i goal in
        record { least = omega (arith, own.least, here, there); first = λ e. own.first (sym there ∙ e ∙ here) }

    -- what is read of it: its cost, and the bound of the mark
    kept_is : (kept : ℕ) → kept ≡ get_or tree.costs.items best kept → kept ≡ get_or tree.costs.items best 0
    kept_is kept read =
        let here = IsPresent-goal (skipping_goals scene) (point_at (points_of tree.nodes) best) best_goal in
        read ∙ get_or_default tree.costs.items best kept 0 (omega (arith, present_below tree.nodes best here, sound.cost_count))

    bound_is : (goals : List Goal) → goals ≡ scene.goals → bound_of scene.start goals mark ≡ mark_bound (setup_of scene) mark
    bound_is goals are =
        ap (λ gs. bound_of scene.start gs mark) (are ∙ sym (skipping_goals-some scene (points_of tree.nodes) best best_goal))

    -- it skips the mark if it costs no more than the bound,
    pub IsSkippedBy-least :
        (kept : ℕ) (goals : List Goal) → kept ≡ get_or tree.costs.items best kept → goals ≡ scene.goals → kept ≤ bound_of scene.start goals mark
        → IsSkippedBy scene tree mark best
    IsSkippedBy-least kept goals read are within = record {
      best = record { member = best_goal; not_above = not_above };
      within = omega (arith, within, sum_is best best_goal, kept_is kept read, bound_is goals are);
    }

    -- and otherwise no goal node does
    pub MayBeCheaper-least :
        (kept : ℕ) (goals : List Goal) → kept ≡ get_or tree.costs.items best kept → goals ≡ scene.goals → bound_of scene.start goals mark < kept
        → MayBeCheaper (setup_of scene) (sum_of tree.nodes) (points_of tree.nodes) mark
    MayBeCheaper-least kept goals read are above i goal =
        omega (arith, above, sum_is best best_goal, kept_is kept read, bound_is goals are, (not_above i goal).least)
