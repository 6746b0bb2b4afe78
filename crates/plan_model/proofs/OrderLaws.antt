-- The order law: what an edge costs at most, and that costs strictly fall along parents.
use Rattle.plan_model.proofs.Words.{◌≡◌, ℕ, zero, suc, ◌+◌, ◌-◌, ◌*◌, ◌^◌, ◌<◌, ◌≤◌, Some, arith, sym, ap, ◌∙◌, subst, ◌≢◌, mul-le, Point, MOST_NODES}
use Rattle.plan_model.proofs.Words.{MOST_STEERING_STEP, squared_distance, cost_of, StandsAt, IsPresent, point_of, AreDistinct, node_count, TreeState, GrowsInto}
use Rattle.plan_model.proofs.Words.{IsAllowedEdge, Hangs, HangsBelow, most_cost_of, KeepsOrder, Setup}
use Rattle.plan_model.proofs.RootLaws.{root_ceiling-is}
use Rattle.plan_model.proofs.KeptCosts.{cost_of-apart}
use Rattle.plan_model.proofs.NewNodes.{IsPresent-stands, point_of-stands, StandsAt-present, node_count-some}
use Rattle.plan_model.proofs.TreeStateLaws.{cost-grows}

-- ---- edges

-- an edge no longer than the step costs at most 256 times the step
pub cost_of-short : (a b : Point) (step : ℕ) → squared_distance a b ≤ step * step → cost_of a b ≤ 256 * step
cost_of-short a b step h = (root_ceiling-is (65536 * squared_distance a b)).least (256 * step) (omega (arith, h))

-- the bound on the costs rises with the number of nodes
pub most_cost_of-le : (setup : Setup) (m n : ℕ) → m ≤ n → most_cost_of setup m ≤ most_cost_of setup n
most_cost_of-le setup m n h = mul-le (256 * setup.step) (m - 1) (256 * setup.step) (n - 1) (omega arith) (omega arith)

-- by a longest edge for each further node
pub most_cost_of-more : (setup : Setup) (n : ℕ) → 1 ≤ n → most_cost_of setup (suc n) ≡ most_cost_of setup n + 256 * setup.step
most_cost_of-more setup zero h = absurd (omega arith)
most_cost_of-more setup (suc n) h =
    let more : suc (suc n) - 1 ≡ suc n = omega arith in
    let here : suc n - 1 ≡ n = omega arith in
    rw (more, here) (omega arith)

-- ---- below a parent

-- What hangs below a parent still does in a tree where the parent stands where it did, at a cost that is enough there.
pub Hangs-later :
    (setup : Setup) (before after : TreeState) (n : ℕ) (p : Point) (parent cost later : ℕ)
    → StandsAt after.points parent (point_of before.points parent)
    → after.cost parent + cost_of (point_of before.points parent) p ≤ later
    → Hangs setup before n p parent cost → Hangs setup after n p parent later
Hangs-later setup before after n p parent cost later stands enough h =
    let same = point_of-stands after.points parent (point_of before.points parent) stands in
    record {
      present = IsPresent-stands after.points parent (point_of before.points parent) stands;
      other = h.other;
      edge = subst (λ a. IsAllowedEdge setup a p) (sym same) h.edge;
      above = omega (arith, ap (λ a. cost_of a p) same, enough);
    }

-- What was right by the costs at one moment is so ever after, since no cost rises.
pub Hangs-grows :
    (setup : Setup) (before after : TreeState) → GrowsInto before after
    → (n : ℕ) (p : Point) (parent cost : ℕ) → Hangs setup before n p parent cost → Hangs setup after n p parent cost
Hangs-grows setup before after grows n p parent cost h =
    let stands = grows.nodes parent (point_of before.points parent) (StandsAt-present before.points parent h.present) in
    Hangs-later setup before after n p parent cost cost stands (omega (arith, cost-grows before after grows parent h.present, h.above)) h

-- a node at p that has this parent, and costs so much, hangs below it
pub HangsBelow-at :
    (setup : Setup) (state : TreeState) (n : ℕ) (p : Point) (parent : ℕ) → StandsAt state.points n p → state.parent n ≡ parent
    → Hangs setup state n p parent (state.cost n) → HangsBelow setup state n
HangsBelow-at setup state n p parent here e h =
    let at_p = subst (λ m. Hangs setup state n p m (state.cost n)) (sym e) h in
    subst (λ q. Hangs setup state n q (state.parent n) (state.cost n)) (sym (point_of-stands state.points n p here)) at_p

-- ---- costs fall along parents

-- the parent of a node stands elsewhere
apart_from_parent :
    (setup : Setup) (state : TreeState) (n : ℕ) → AreDistinct state.points → IsPresent state.points n → HangsBelow setup state n
    → point_of state.points (state.parent n) ≢ point_of state.points n
apart_from_parent setup state n distinct here h e =
    let above = StandsAt-present state.points (state.parent n) h.present ∙ ap Some e in
    h.other (distinct (state.parent n) n (point_of state.points n) above (StandsAt-present state.points n here))

-- so it costs strictly less
pub HangsBelow-falls :
    (setup : Setup) (state : TreeState) (n : ℕ) → AreDistinct state.points → IsPresent state.points n → HangsBelow setup state n
    → state.cost (state.parent n) < state.cost n
HangsBelow-falls setup state n distinct here h =
    let edge =
    cost_of-apart (point_of state.points (state.parent n)) (point_of state.points n) (apart_from_parent setup state n distinct here h) in
    omega (arith, h.above, edge)

module _ (setup : Setup) (state : TreeState) (order : KeepsOrder setup state) where
  -- the start is present
  pub start-present : IsPresent state.points 0
  start-present = IsPresent-stands state.points 0 setup.start order.start_stands

  -- so there is a node
  pub some_node : 1 ≤ node_count state.points
  some_node = node_count-some state.points 0 start-present

  -- costs strictly fall along parents
  pub KeepsOrder-falls : (n : ℕ) → IsPresent state.points (suc n) → state.cost (state.parent (suc n)) < state.cost (suc n)
  KeepsOrder-falls n h = HangsBelow-falls setup state (suc n) order.distinct h (order.hangs n h)

  -- the parent of a present node is present
  pub parent-present : (n : ℕ) → IsPresent state.points n → IsPresent state.points (state.parent n)
  parent-present zero h = subst (IsPresent state.points) (sym order.start_parent) start-present
  parent-present (suc n) h = (order.hangs n h).present

  -- a node that is reached over an allowed edge costs within the bound of a node more
  pub cost-within_more :
      (f : ℕ) (p : Point) → IsPresent state.points f → IsAllowedEdge setup (point_of state.points f) p
      → state.cost f + cost_of (point_of state.points f) p ≤ most_cost_of setup (suc (node_count state.points))
  cost-within_more f p h edge =
      let short = cost_of-short (point_of state.points f) p setup.step edge.short in
      omega (arith, order.bounded f h, short, most_cost_of-more setup (node_count state.points) some_node)

-- ---- costs of trees within the limits

-- with the most nodes and the greatest step that points are steered by the bound is below 2 ^ 42
pub most_cost_of-within : (setup : Setup) (nodes : ℕ) → setup.step ≤ MOST_STEERING_STEP → nodes ≤ MOST_NODES → most_cost_of setup nodes < 2 ^ 42
most_cost_of-within setup nodes step few =
    let most : 256 * setup.step * (nodes - 1) ≤ 256 * MOST_STEERING_STEP * (MOST_NODES - 1) =
    mul-le (256 * setup.step) (nodes - 1) (256 * MOST_STEERING_STEP) (MOST_NODES - 1) (omega (arith, step)) (omega (arith, few)) in
    omega (arith, most)
