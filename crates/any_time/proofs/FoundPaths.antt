-- The path to the best node of a run leads from the start into a goal, in that run and in each that it grows into.
use Rattle.any_time.proofs.Words.{◌≡◌, ℕ, zero, suc, ◌+◌, ◌-◌, ◌<◌, ◌≤◌, List, [], ◌∷◌, ◌++◌, length, map, reverse, arith, refl, sym, ap, ◌∙◌, subst, inl, inr}
use Rattle.any_time.proofs.Words.{length-append, cases_lt, map-append, get_or_append_left, get_or-append_right, reverse-append, IsTrue, Option, Some}
use Rattle.any_time.proofs.Words.{chain-start, chain-parent, StandsAt-present, KeepsOrder-falls, FallAlong-ordered, length_of_path-reverse, path_to}
use Rattle.any_time.proofs.Words.{IsAllowedEdge, KeepsOrder, Setup, setup_of, path_point, goals_of, is_goal_point, lies_in_goals, length_of_path, AreNumberedTo}
use Rattle.any_time.proofs.Words.{IsPresent, StandsAt, point_of, GrowsInto, TreeState, chain_in, Goal, Point, Scene, Task, state_of_grown, path_to-reverse}
use Rattle.any_time.proofs.Words.{points_up, Grown, Shows, IsOfFirstNodes, Leads, LeadsIntoGoal, Better}
use Rattle.any_time.proofs.BestNodes.{AreNumberedTo-grown, IsGoalNode-best, IsPresent-best}

module _ (Edge : Point → Point → Type 0) (Node : Point → Type 0) (first : Point) where
  -- one point
  Leads-one : Node first → Leads Edge Node first first (first ∷ [])
  Leads-one node = record {
    some = omega arith;
    first_is = refl;
    last_is = refl;
    edges = λ i low. absurd (omega (arith, low));
    nodes = only;
  }
    where
      only : (i : ℕ) → i < 1 → Node (path_point (first ∷ []) i)
      only zero low = node
      only (suc i) low = absurd (omega (arith, low))

  -- one edge more
  Leads-next : (path : List Point) (p q : Point) → Leads Edge Node first p path → Edge p q → Node q → Leads Edge Node first q (path ++ q ∷ [])
  Leads-next path p q h edge node = record {
    some = omega (arith, long);
    first_is = before 0 h.some ∙ h.first_is;
    last_is = let place : length (path ++ q ∷ []) - 1 ≡ length path = omega (arith, long) in ap (path_point (path ++ q ∷ [])) place ∙ at_end;
    edges = edges;
    nodes = nodes;
  }
    where
      long : length (path ++ q ∷ []) ≡ length path + 1
      long = length-append path (q ∷ [])

      at_end : path_point (path ++ q ∷ []) (length path) ≡ q
      at_end =
          get_or-append_right path (q ∷ []) (length path) (length path) (record { x = 0; y = 0 }) refl (omega arith)
          ∙ (let none : length path - length path ≡ 0 = omega arith in ap (path_point (q ∷ [])) none)

      before : (i : ℕ) → i < length path → path_point (path ++ q ∷ []) i ≡ path_point path i
      before i low = get_or_append_left path (q ∷ []) (record { x = 0; y = 0 }) i low

      edges : (i : ℕ) → suc i < length (path ++ q ∷ []) → Edge (path_point (path ++ q ∷ []) i) (path_point (path ++ q ∷ []) (suc i))
      edges i low =
          elim (cases_lt (suc i) (length path)) [
            | inl within ↦ (
                subst (λ b. Edge (path_point (path ++ q ∷ []) i) b) (sym (before (suc i) within))
                (subst (λ a. Edge a (path_point path (suc i))) (sym (before i (omega (arith, within)))) (h.edges i within)))
            | inr past ↦ (
                let number : suc i ≡ length path = omega (arith, low, long, past) in
                let place : i ≡ length path - 1 = omega (arith, number) in
                let one = before i (omega (arith, number)) ∙ ap (path_point path) place ∙ h.last_is in
                let other = ap (path_point (path ++ q ∷ [])) number ∙ at_end in
                subst (λ b. Edge (path_point (path ++ q ∷ []) i) b) (sym other) (subst (λ a. Edge a q) (sym one) edge))
          ]

      nodes : (i : ℕ) → i < length (path ++ q ∷ []) → Node (path_point (path ++ q ∷ []) i)
      nodes i low =
          elim (cases_lt i (length path)) [
            | inl within ↦ subst Node (sym (before i within)) (h.nodes i within)
            | inr past ↦ (
                let number : i ≡ length path = omega (arith, low, long, past) in
                subst Node (sym (ap (path_point (path ++ q ∷ [])) number ∙ at_end)) node)
          ]

-- points of another kind, if each is of that kind too
pub Leads-weaker :
    (Edge : Point → Point → Type 0) (Node Other : Point → Type 0) (first last : Point) (path : List Point)
    → ((p : Point) → Node p → Other p) → Leads Edge Node first last path → Leads Edge Other first last path
Leads-weaker Edge Node Other first last path weaker h = record {
  some = h.some;
  first_is = h.first_is;
  last_is = h.last_is;
  edges = h.edges;
  nodes = λ i low. weaker _ (h.nodes i low);
}

-- the point of some node with a number up to this one
abbrev IsOfFirst : TreeState → ℕ → Point → Type 0
IsOfFirst state most p = (n : ℕ) × (n ≤ most) × StandsAt state.points n p

module _ (setup : Setup) (state : TreeState) (order : KeepsOrder setup state) (most : ℕ) (numbered : AreNumberedTo most state.points) where
  path-parent : (n : ℕ) → IsPresent state.points (suc n) → path_to state (suc n) ≡ path_to state (state.parent (suc n)) ++ point_of state.points (suc n) ∷ []
  path-parent n h =
      let up : List ℕ = chain_in state (state.parent (suc n)) in
      let chain = chain-parent state.cost state.points state.parent (FallAlong-ordered setup state order) n h in
      ap (λ ns. map (point_of state.points) (reverse ns)) chain
      ∙ ap (map (point_of state.points)) (reverse-append (suc n ∷ []) up)
      ∙ map-append (point_of state.points) (reverse up) (suc n ∷ [])

  start-point : point_of state.points 0 ≡ setup.start
  start-point = rw order.start_stands refl

  path-start : path_to state 0 ≡ setup.start ∷ []
  path-start =
      ap (λ ns. map (point_of state.points) (reverse ns)) (chain-start state.cost state.points state.parent (FallAlong-ordered setup state order))
      ∙ ap (λ (p : Point). p ∷ []) start-point

  here : (n : ℕ) → IsPresent state.points n → IsOfFirst state most (point_of state.points n)
  here n h = (n, numbered n h, StandsAt-present state.points n h)

  Leads-below : (bound n : ℕ) → IsPresent state.points n → state.cost n ≤ bound
      → Leads (IsAllowedEdge setup) (IsOfFirst state most) setup.start (point_of state.points n) (path_to state n)
  Leads-below bound zero h l =
      let start = subst (IsOfFirst state most) start-point (here 0 h) in
      subst (λ p. Leads (IsAllowedEdge setup) (IsOfFirst state most) setup.start p (path_to state 0)) (sym start-point)
      (subst (λ path. Leads (IsAllowedEdge setup) (IsOfFirst state most) setup.start setup.start path) (sym path-start)
      (Leads-one (IsAllowedEdge setup) (IsOfFirst state most) setup.start start))
  Leads-below zero (suc n) h l = absurd (omega (arith, KeepsOrder-falls setup state order n h, l))
  Leads-below (suc bound) (suc n) h l =
      let below = order.hangs n h in
      let up = Leads-below bound (state.parent (suc n)) below.present (omega (arith, KeepsOrder-falls setup state order n h, l)) in
      subst (λ path. Leads (IsAllowedEdge setup) (IsOfFirst state most) setup.start (point_of state.points (suc n)) path) (sym (path-parent n h))
      (Leads-next (IsAllowedEdge setup) (IsOfFirst state most) setup.start (path_to state (state.parent (suc n)))
      (point_of state.points (state.parent (suc n))) (point_of state.points (suc n)) up below.edge (here (suc n) h))

  -- the path to a node leads from the start to it, over nodes with numbers up to the greatest
  pub Leads-ordered : (n : ℕ) → IsPresent state.points n
      → Leads (IsAllowedEdge setup) (IsOfFirst state most) setup.start (point_of state.points n) (path_to state n)
  Leads-ordered n h = Leads-below (state.cost n) n h (omega arith)

-- a goal node's point lies in a goal
in_goals : (goals : List Goal) (o : Option Point) (p : Point) → o ≡ Some p → IsTrue (is_goal_point goals o) → IsTrue (lies_in_goals goals p)
in_goals goals o p is goal = subst (λ o. IsTrue (is_goal_point goals o)) is goal

-- the item that shows a run leads into a goal by it
pub LeadsIntoGoal-shown : (run : Grown) (item : Better) → Shows run item → LeadsIntoGoal run item
LeadsIntoGoal-shown run item shown =
    let state = state_of_grown run in
    let present = IsPresent-best run shown.node shown.best in
    let leads = Leads-ordered (setup_of run.task.scene) state run.hold_run.closed.order run.limit (AreNumberedTo-grown run) shown.node present in
    let end = point_of state.points shown.node in
    let along = subst (λ path. Leads (IsAllowedEdge (setup_of run.task.scene)) (IsOfFirstNodes run run.limit) run.task.scene.start end path)
    (sym shown.path) leads in
    record {
      last = point_of state.points shown.node;
      goal = in_goals (goals_of run.task.scene) _ _ (StandsAt-present state.points shown.node present) (IsGoalNode-best run shown.node shown.best);
      leads =
          subst (λ most. Leads (IsAllowedEdge (setup_of run.task.scene)) (IsOfFirstNodes run most) run.task.scene.start end item.path)
          (sym shown.marks) along;
      cost =
          shown.cost ∙ sym (length_of_path-reverse (points_up state shown.node))
          ∙ ap length_of_path (sym (path_to-reverse state shown.node)) ∙ ap length_of_path (sym shown.path);
    }

-- and by each run that it grows into
pub LeadsIntoGoal-grows :
    (run later : Grown) (item : Better) → later.task ≡ run.task → GrowsInto (state_of_grown run) (state_of_grown later)
    → LeadsIntoGoal run item → LeadsIntoGoal later item
LeadsIntoGoal-grows run later item task grows h =
    let scene = ap (λ (t : Task). t.scene) task in
    record {
      last = h.last;
      goal = subst (λ (s : Scene). IsTrue (lies_in_goals (goals_of s) h.last)) (sym scene) h.goal;
      leads =
          subst (λ (s : Scene). Leads (IsAllowedEdge (setup_of s)) (IsOfFirstNodes later item.marks) s.start h.last item.path) (sym scene)
          (Leads-weaker (IsAllowedEdge (setup_of run.task.scene)) (IsOfFirstNodes run item.marks) (IsOfFirstNodes later item.marks)
          run.task.scene.start h.last item.path (λ p own. (own.0, own.1, grows.nodes own.0 p own.2)) h.leads);
      cost = h.cost;
    }
