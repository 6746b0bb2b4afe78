-- The lattice points of the room of configurations are those whose coordinates are in its columns and its rows.
use Rattle.plan_model.proofs.Words.{ℕ, ◌+◌, ◌-◌, ◌*◌, ◌≤◌, List, [], ◌∷◌, arith, ℤ, pos, negsuc, ◌+ℤ◌, ◌*ℤ◌, ◌≤ℤ◌, All, fold, max, ints, All-cons, All-nil}
use Rattle.plan_model.proofs.Words.{All-head, All-tail, Vertex, Point, ConfigurationSpace, at_lattice, InRoom, below_zero, above_zero, reach, IsInSpan}
use Rattle.plan_model.proofs.Words.{span_within, columns, rows, BodyFits, Span}

-- ---- how far a body reaches, seen from a bound of it
pub record IsReachBounded (extent : Vertex → ℕ) (far : ℕ) (body : List Vertex) (n : ℕ) : Type 0 where
  pub start : far ≤ n
  pub corners : All (λ corner. extent corner ≤ n) body

pub reach-bounded :
    (extent : Vertex → ℕ) (far : ℕ) (body : List Vertex) (n : ℕ) → IsReachBounded extent far body n → fold (λ far corner. max far (extent corner)) far body ≤ n
reach-bounded extent far [] n h = h.start
reach-bounded extent far (corner ∷ body) n h =
    let P : Vertex → Type 0 = λ corner. extent corner ≤ n in
    let first : extent corner ≤ n = All-head P corner body h.corners in
    let start = h.start in
    reach-bounded extent (max far (extent corner)) body n (record { start = omega arith; corners = All-tail P corner body h.corners })

IsReachBounded-from_reach :
    (extent : Vertex → ℕ) (far : ℕ) (body : List Vertex) (n : ℕ) → fold (λ far corner. max far (extent corner)) far body ≤ n → IsReachBounded extent far body n
IsReachBounded-from_reach extent far [] n h = record { start = h; corners = All-nil (λ corner. extent corner ≤ n) }
IsReachBounded-from_reach extent far (corner ∷ body) n h =
    let rest = IsReachBounded-from_reach extent (max far (extent corner)) body n h in
    let start = rest.start in
    record {
      start = omega arith;
      corners = All-cons (λ corner. extent corner ≤ n) corner body (omega arith) rest.corners;
    }

-- ---- one coordinate
-- moved to n, the corner's coordinate lies between 0 and the side
record Fits (side n : ℕ) (corner : ℤ) : Type 0 where
  back : below_zero corner ≤ n
  forth : above_zero corner + n ≤ side

fits_on_side :
    (side n : ℕ) (corner : ℤ) → n ≤ side → pos 0 ≤ℤ (pos n +ℤ (pos 1 *ℤ corner)) → (pos n +ℤ (pos 1 *ℤ corner)) ≤ℤ pos (1 * side) → Fits side n corner
fits_on_side side n (pos c) h low high = record { back = omega arith; forth = omega (arith, ints) }
fits_on_side side n (negsuc c) h low high = record { back = omega (arith, ints); forth = omega arith }

-- the coordinate of a corner that is moved to n
record IsMovedOnSide (side n : ℕ) (corner : ℤ) : Type 0 where
  low : pos 0 ≤ℤ (pos n +ℤ (pos 1 *ℤ corner))
  high : (pos n +ℤ (pos 1 *ℤ corner)) ≤ℤ pos (1 * side)

on_side_fits : (side n : ℕ) (corner : ℤ) → n ≤ side → Fits side n corner → IsMovedOnSide side n corner
on_side_fits side n (pos c) h f = let forth = f.forth in record { low = omega (arith, ints); high = omega (arith, ints) }
on_side_fits side n (negsuc c) h f = let back = f.back in record { low = omega (arith, ints); high = omega (arith, ints) }

-- the span of a body's coordinate
abbrev span_of : ℕ → (Vertex → ℤ) → List Vertex → Span
span_of side coordinate body =
    span_within side (reach (λ v. below_zero (coordinate v)) body) (reach (λ v. above_zero (coordinate v)) body)

-- at n, the body lies between 0 and the side
record BodyFitsAt (side : ℕ) (coordinate : Vertex → ℤ) (body : List Vertex) (n : ℕ) : Type 0 where
  inside : n ≤ side
  corners : All (λ v. Fits side n (coordinate v)) body

span_fits : (side : ℕ) (coordinate : Vertex → ℤ) (body : List Vertex) (n : ℕ) → BodyFitsAt side coordinate body n → IsInSpan (span_of side coordinate body) n
span_fits side coordinate body n h =
    let back = reach-bounded (λ v. below_zero (coordinate v)) 0 body n (record { start = omega arith; corners = λ k d l. (h.corners k d l).back }) in
    let forth = reach-bounded (λ v. above_zero (coordinate v)) 0 body (side - n) (record {
      start = omega arith;
      corners = λ k d l. (let own = (h.corners k d l).forth in omega arith);
    }) in
    let inside = h.inside in
    record { low = omega arith; high = omega arith }

fits_span : (side : ℕ) (coordinate : Vertex → ℤ) (body : List Vertex) (n : ℕ) → IsInSpan (span_of side coordinate body) n → BodyFitsAt side coordinate body n
fits_span side coordinate body n h =
    let low = h.low in
    let high = h.high in
    let back = IsReachBounded-from_reach (λ v. below_zero (coordinate v)) 0 body n (omega arith) in
    let forth = IsReachBounded-from_reach (λ v. above_zero (coordinate v)) 0 body (side - n) (omega arith) in
    record {
      inside = omega arith;
      corners = λ k d l. record { back = back.corners k d l; forth = (let own = forth.corners k d l in omega arith) };
    }

-- ---- both coordinates
pub record IsInSpans (space : ConfigurationSpace) (p : Point) : Type 0 where
  pub column : IsInSpan (columns space.room space.body) p.x
  pub row : IsInSpan (rows space.room space.body) p.y

pub IsInSpans-from_in_room : (space : ConfigurationSpace) (p : Point) → InRoom space (at_lattice p) → IsInSpans space p
IsInSpans-from_in_room space p h =
    let right = h.here.right in
    let top = h.here.top in
    let across : p.x ≤ space.room.x = omega (arith, ints) in
    let up : p.y ≤ space.room.y = omega (arith, ints) in
    record {
      column = span_fits space.room.x (λ v. v.x) space.body p.x (record {
        inside = across;
        corners = λ k d l. (let own = h.corners k d l in fits_on_side space.room.x p.x _ across own.left own.right);
      });
      row = span_fits space.room.y (λ v. v.y) space.body p.y (record {
        inside = up;
        corners = λ k d l. (let own = h.corners k d l in fits_on_side space.room.y p.y _ up own.bottom own.top);
      });
    }

pub InRoom-from_spans : (space : ConfigurationSpace) (p : Point) → IsInSpans space p → InRoom space (at_lattice p)
InRoom-from_spans space p h =
    let x = fits_span space.room.x (λ v. v.x) space.body p.x h.column in
    let y = fits_span space.room.y (λ v. v.y) space.body p.y h.row in
    let across = x.inside in
    let up = y.inside in
    record {
      here = record { left = omega (arith, ints); right = omega (arith, ints); bottom = omega (arith, ints); top = omega (arith, ints) };
      corners = λ k d l. (
          let horizontal = on_side_fits space.room.x p.x _ across (x.corners k d l) in
          let vertical = on_side_fits space.room.y p.y _ up (y.corners k d l) in
          record { left = horizontal.low; right = horizontal.high; bottom = vertical.low; top = vertical.high });
    }

-- a room of configurations with a lattice point has a column and a row
pub BodyFits-from_in_room : (space : ConfigurationSpace) (p : Point) → InRoom space (at_lattice p) → BodyFits space.room space.body
BodyFits-from_in_room space p h =
    let own = IsInSpans-from_in_room space p h in
    let left = own.column.low in
    let right = own.column.high in
    let bottom = own.row.low in
    let top = own.row.high in
    record { some_column = omega arith; some_row = omega arith }
