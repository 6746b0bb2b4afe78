-- A node that stands where the nearest node steers to stands where the nearest node does; if that is elsewhere, none stands there.
use Rattle.plan_model.proofs.Words.{◌≡◌, ℕ, ◌≤◌, List, Option, Some, IsSome, refl, ap, sym, ◌∙◌, subst, ◌≢◌, unwrap_or, Point, squared_distance, point_of}
use Rattle.plan_model.proofs.Words.{StandsAt, IsPresent, IsFree, IsNearest, steered, Setup, SteersTo}
use Rattle.plan_model.proofs.NewNodes.{point_of-stands}
use Rattle.plan_model.proofs.SteeringLaws.{IsStep-steered, corner_of_box}

-- the nearest node is no farther from q than a node that stands at p
nearest_below :
    (points : List (Option Point)) (q p : Point) (m n : ℕ) → IsNearest points q m → StandsAt points n p
    → squared_distance (point_of points m) q ≤ squared_distance p q
nearest_below points q p m n nearest own =
    let present : IsPresent points n = subst IsSome (sym own) refl in
    let place : point_of points n ≡ p = ap (λ node. unwrap_or node (record { x = 0; y = 0 })) own in
    subst (λ r. squared_distance (point_of points m) q ≤ squared_distance r q) place (nearest.not_above n present).least

pub steered-is_nearest :
    (points : List (Option Point)) (q : Point) (step m n : ℕ) → IsNearest points q m → StandsAt points n (steered (point_of points m) q step)
    → steered (point_of points m) q step ≡ point_of points m
steered-is_nearest points q step m n nearest own =
    let from = point_of points m in
    corner_of_box from q (steered from q step) (IsStep-steered from q step).within (nearest_below points q (steered from q step) m n nearest own)

-- if the point is not the nearest node's own, no node stands there
pub IsFree-steered :
    (setup : Setup) (points : List (Option Point)) (mark : Point) (nearest : ℕ) (from point : Point) → SteersTo setup points mark nearest point
    → StandsAt points nearest from → point ≢ from → IsFree points point
IsFree-steered setup points mark nearest from point steers stands apart = λ j own.
    let begins = point_of-stands points nearest from stands in
    apart (steers.reached ∙ steered-is_nearest points mark setup.step nearest j steers.nearest (own ∙ ap Some steers.reached) ∙ begins)
