-- A point body that meets nothing between the walls.
use Rattle.plan_model_tests.proofs.Words.{◌≤◌, List, [], ◌∷◌, arith, ints, All-cons, All-nil, Point, Vertex, ClearAt, space_among, Meets, IsBetweenWalls}
use Rattle.plan_model_tests.proofs.Words.{at_lattice, moved_by, point_body, corner, corner_in_box}

-- a point body is clear at a lattice point between the walls at which it does not meet the only obstacle
pub ClearAt-apart : (room p : Point) (obstacle : List Vertex) → p.x ≤ room.x → p.y ≤ room.y → ¬ Meets 0 point_body (at_lattice p) obstacle
    → ClearAt (space_among room point_body (obstacle ∷ [])) p
ClearAt-apart room p obstacle right top apart =
    let P : Vertex → Type 0 = λ v. IsBetweenWalls room (moved_by (at_lattice p) v) in
    let Q : List Vertex → Type 0 = λ o. ¬ Meets 0 point_body (at_lattice p) o in
    let box : IsBetweenWalls room (at_lattice p) =
    record { left = omega (arith, ints); right = omega (arith, ints); bottom = omega (arith, ints); top = omega (arith, ints) } in
    record {
      in_room = record { here = box; corners = All-cons P (corner 0 0) [] (corner_in_box room (at_lattice p) box) (All-nil P) };
      meets_none = All-cons Q obstacle [] apart (All-nil Q);
    }
