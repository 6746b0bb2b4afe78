-- The bound of a point is the least cost of an edge from the start to it and one from it to a point of a goal, and no path over it into
-- a goal costs less.
use Rattle.plan_model.proofs.Words.{◌≡◌, ℕ, zero, suc, ◌+◌, ◌-◌, ◌*◌, ◌<◌, ◌≤◌, List, [], ◌∷◌, map, length, refl, ap, ◌∙◌, arith, inl, inr, Contains, IsTrue}
use Rattle.plan_model.proofs.Words.{min, flat_map, abs_diff, cases_lt, mul-le, Goal, Point, cost_of, squared_distance, path_point, lies_in_goals, least_of}
use Rattle.plan_model.proofs.Words.{points_of_goal, length_of_path}
use Rattle.plan_model.specs.Geometry.Lengths.{root_ceiling}
use Rattle.plan_model.specs.Trees.BestNode.{bound_of}
use Rattle.plan_model.proofs.CostLaws.{cost_of-swap}
use Rattle.plan_model.proofs.GoalPoints.{Contains-in_goals, in_goals-Contains, Contains-map, from_map}
use Rattle.plan_model.proofs.ListMembers.{Contains-first, Contains-after}
use Rattle.plan_model.proofs.RootLaws.{root_ceiling-is, root_ceiling-zero}
use Rattle.plan_model.proofs.TriangleLaw.{cost_of-triangle}

-- ---- edges to the points of goals

-- an edge that is no longer costs no more
pub cost_of-le : (p z w : Point) → squared_distance p z ≤ squared_distance p w → cost_of p z ≤ cost_of p w
cost_of-le p z w h =
    let reached = (root_ceiling-is (65536 * squared_distance p w)).reaches in
    (root_ceiling-is (65536 * squared_distance p z)).least (cost_of p w) (omega (arith, h, reached))

-- a point that is as near in both coordinates is as near
pub squared_distance-le :
    (p z w : Point) → abs_diff p.x z.x ≤ abs_diff p.x w.x → abs_diff p.y z.y ≤ abs_diff p.y w.y → squared_distance p z ≤ squared_distance p w
squared_distance-le p z w across up =
    let x = mul-le (abs_diff p.x z.x) (abs_diff p.x z.x) (abs_diff p.x w.x) (abs_diff p.x w.x) across across in
    let y = mul-le (abs_diff p.y z.y) (abs_diff p.y z.y) (abs_diff p.y w.y) (abs_diff p.y w.y) up up in
    omega (arith, x, y)

-- ---- the least of some numbers

-- none is less
least_of-le : (ns : List ℕ) (n : ℕ) → Contains ns n → least_of ns ≤ n
least_of-le [] n (k, l, is) = absurd (omega (arith, l))
least_of-le (a ∷ []) n (zero, l, is) = omega (arith, is)
least_of-le (a ∷ []) n (suc k, l, is) = absurd (omega (arith, l))
least_of-le (a ∷ b ∷ ns) n (zero, l, is) = omega (arith, is)
least_of-le (a ∷ b ∷ ns) n (suc k, l, is) =
    let rest = least_of-le (b ∷ ns) n (k, omega (arith, l), is) in omega (arith, rest)

-- and it is one of them
least_of-member : (n : ℕ) (ns : List ℕ) → Contains (n ∷ ns) (least_of (n ∷ ns))
least_of-member a [] = Contains-first a []
least_of-member a (b ∷ ns) =
    let rest : Contains (b ∷ ns) (least_of (b ∷ ns)) = least_of-member b ns in
    elim (cases_lt a (least_of (b ∷ ns))) [
      | inl less ↦ (
          let own : min a (least_of (b ∷ ns)) ≡ a = omega (arith, less) in
          rw own (Contains-first a (b ∷ ns)))
      | inr more ↦ (
          let other : min a (least_of (b ∷ ns)) ≡ least_of (b ∷ ns) = omega (arith, more) in
          rw other (Contains-after a (b ∷ ns) (least_of (b ∷ ns)) rest))
    ]

-- ---- the bound

module _ (start : Point) (goals : List Goal) (p : Point) where
  -- an edge over p to any point of a goal costs no less
  pub bound_of-least : (z : Point) → IsTrue (lies_in_goals goals z) → bound_of start goals p ≤ cost_of start p + cost_of p z
  unfolding bound_of
  bound_of-least z h =
      let own = least_of-le (map (cost_of p) (flat_map points_of_goal goals)) (cost_of p z)
      (Contains-map (cost_of p) (flat_map points_of_goal goals) z (Contains-in_goals goals z h)) in
      omega (arith, own)

  -- the least edge from p to one of these points
  least_edge : (zs : List Point) (z : Point) → Contains zs z → Contains (map (cost_of p) zs) (least_of (map (cost_of p) zs))
  least_edge [] z (k, l, is) = absurd (omega (arith, l))
  least_edge (a ∷ zs) z h = least_of-member (cost_of p a) (map (cost_of p) zs)

  -- to one it costs as much
  pub bound_of-reached :
      (z : Point) → IsTrue (lies_in_goals goals z)
      → (nearest : Point) × IsTrue (lies_in_goals goals nearest) × (bound_of start goals p ≡ cost_of start p + cost_of p nearest)
  unfolding bound_of
  bound_of-reached z h =
      let zs : List Point = flat_map points_of_goal goals in
      let least : Contains (map (cost_of p) (flat_map points_of_goal goals)) (least_of (map (cost_of p) (flat_map points_of_goal goals))) =
      least_edge (flat_map points_of_goal goals) z (Contains-in_goals goals z h) in
      let at = from_map (cost_of p) (flat_map points_of_goal goals) (least_of (map (cost_of p) (flat_map points_of_goal goals))) least in
      (at.0, in_goals-Contains goals at.0 at.1, omega (arith, at.2))

  -- so it goes by any point of a goal to which the edge costs least
  pub bound_of-is :
      (z : Point) → IsTrue (lies_in_goals goals z) → ((other : Point) → IsTrue (lies_in_goals goals other) → cost_of p z ≤ cost_of p other)
      → bound_of start goals p ≡ cost_of start p + cost_of p z
  bound_of-is z h least =
      let at = bound_of-reached z h in
      omega (arith, bound_of-least z h, at.2, least at.0 at.1)

-- ---- paths

-- an edge without length costs nothing
cost_of-same : (p : Point) → cost_of p p ≡ 0
cost_of-same p =
    let across : abs_diff p.x p.x ≡ 0 = omega arith in
    let up : abs_diff p.y p.y ≡ 0 = omega arith in
    let none : 65536 * squared_distance p p ≡ 0 = rw (across, up) refl in
    ap root_ceiling none ∙ root_ceiling-zero

-- A path costs no less than an edge from its first point to any of its points and one from there to its last.
path_over : (path : List Point) (k l : ℕ) → k < length path → suc l ≡ length path
    → cost_of (path_point path 0) (path_point path k) + cost_of (path_point path k) (path_point path l) ≤ length_of_path path
path_over [] k l below last = absurd (omega arith)
path_over (p ∷ []) zero zero below last = omega (arith, cost_of-same p)
path_over (p ∷ []) zero (suc l) below last = absurd (omega arith)
path_over (p ∷ []) (suc k) l below last = absurd (omega arith)
path_over (p ∷ q ∷ path) k zero below last = absurd (omega arith)
path_over (p ∷ q ∷ path) zero (suc l) below last =
    let rest = path_over (q ∷ path) 0 l (omega arith) (omega arith) in
    omega (arith, cost_of-same p, cost_of-same q, rest, cost_of-triangle p q (path_point (q ∷ path) l), cost_of-swap p q)
path_over (p ∷ q ∷ path) (suc k) (suc l) below last =
    let rest = path_over (q ∷ path) k l (omega arith) (omega arith) in
    omega (arith, rest, cost_of-triangle p q (path_point (q ∷ path) k), cost_of-swap p q)

-- A path to a point of a goal costs no less than the bound of any of its points.
pub bound_of-path :
    (goals : List Goal) (path : List Point) (k : ℕ) → k < length path → IsTrue (lies_in_goals goals (path_point path (length path - 1)))
    → bound_of (path_point path 0) goals (path_point path k) ≤ length_of_path path
bound_of-path goals path k below goal =
    let bound = bound_of-least (path_point path 0) goals (path_point path k) (path_point path (length path - 1)) goal in
    let over = path_over path k (length path - 1) below (omega (arith, below)) in
    omega (arith, bound, over)
