-- Nodes that are at most a step from a point, and the parent that is chosen among them.
use Rattle.growing_tests.proofs.Words.{◌≡◌, ℕ, ◌*◌, ◌≤◌, true, Some, List, ◌∷◌, is_some, arith, refl, sym, ap, subst, All, Contains, Contains-get_or, mul-le}
use Rattle.growing_tests.proofs.Words.{Point, Clear, mark_at, ConfigurationSpace, cost_of, squared_distance, IsFirstLeast, IsOpenTo, IsPresent, point_of, Sight}
use Rattle.growing_tests.proofs.Words.{StandsAt-present, point_of-stands, IsStep-steered, AreNearSeen, AreNearSeen-only, GoesOn, IsLawfulView, has_point}
use Rattle.growing_tests.proofs.Words.{IsCostBelow, MayHang, SeesCost, SeesPoint, sight_in, tree_seen, Hand, View, IsInReach, SeesPair, cost_seen}
use Rattle.growing_tests.proofs.Words.{seen_cost_through, IsInReach-later}

-- a node that is seen so close is in reach
IsInReach-stands : (view : View) (p q : Point) (n : ℕ) → SeesPoint view n q → squared_distance q p ≤ view.run.step * view.run.step → IsInReach view p n
IsInReach-stands view p q n stands close = record {
  present = ap is_some stands;
  short = omega (arith, close, ap (λ a. squared_distance a p) (point_of-stands (tree_seen view).points n q stands));
}

-- all within a radius of at most a step are
pub All-in_reach : (before : Sight) (view : View) (p : Point) (r : ℕ) (found : List ℕ) → AreNearSeen before (sight_in view) p r found
    → r ≤ view.run.step → All (IsInReach view p) found
All-in_reach before view p r found h low = λ k d below.
    let n : ℕ = _ in
    let one = AreNearSeen-only before (sight_in view) p r found h n (Contains-get_or found k d below) in
    IsInReach-stands view p one.0 n one.1 (omega (arith, one.2, mul-le r r view.run.step view.run.step low low))

module _ (view : View) (hand : Hand) (lawful : IsLawfulView view) (held : view.hand ≡ Some hand) (far : has_point hand.stage ≡ true) where
  -- the node that a point in hand was steered from is
  pub IsInReach-nearest : IsInReach view hand.point hand.nearest
  IsInReach-nearest =
      let step = (lawful.tree.holds hand held).steered_from far in
      IsInReach-stands view hand.point step.from hand.nearest step.seen
      (omega (
        arith,
        (IsStep-steered step.from (mark_at view.run.marks hand.mark) view.run.step).short,
        ap (λ p. squared_distance step.from p) step.reached,
      ))

-- what is in reach stays so
pub All-in_reach-later : (before after : View) (p : Point) (found now : List ℕ) → GoesOn before after → now ≡ found → All (IsInReach before p) found
    → All (IsInReach after p) now
All-in_reach-later before after p found now goes_on same all =
    let still : All (IsInReach after p) found = λ k d below. IsInReach-later before after p _ goes_on (all k d below) in
    subst (All (IsInReach after p)) (sym same) still

-- the node in hand may hang below the best of its nearest node and the near ones
pub MayHang-chosen : (view : View) (space : ConfigurationSpace) (hand : Hand) (p : Point) (n : ℕ) (near : List ℕ) (parent cost : ℕ)
    → p ≡ hand.point → n ≡ hand.nearest → IsPresent (tree_seen view).points n → SeesPair view n → Clear space (point_of (tree_seen view).points n) p
    → IsFirstLeast (seen_cost_through view p) (IsOpenTo space (tree_seen view).points p (n ∷ near)) parent → cost ≡ seen_cost_through view p parent
    → IsCostBelow view p parent cost → MayHang view hand parent cost
MayHang-chosen view space hand p n near parent cost p_is n_is present pair clear least cost_is below =
    let points = (tree_seen view).points in
    let here : Contains (n ∷ near) n = Contains-get_or (n ∷ near) 0 0 (omega arith) in
    let seen : SeesCost view n (point_of points n) (cost_seen view n) =
    record { stands = StandsAt-present points n present; written = pair; cost_is = refl } in
    record {
      below = subst (λ q. IsCostBelow view q parent cost) p_is below;
      nearest_at = point_of points n;
      nearest_cost = cost_seen view n;
      nearest = subst (λ m. SeesCost view m (point_of points n) (cost_seen view n)) n_is seen;
      chosen =
          omega (
            arith,
            cost_is,
            (least.not_above n (record { among = here; clear = clear })).least,
            ap (cost_of (point_of points n)) p_is,
          );
    }
