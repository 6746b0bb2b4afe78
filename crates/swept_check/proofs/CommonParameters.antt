-- A segment crosses a polygon if some parameter is in the half-plane of each edge.
use Rattle.swept_check.proofs.Words.{◌≡◌, ℕ, ◌+◌, ◌*◌, ◌<◌, ◌≤◌, List, length, arith, ℤ, ◌↔◌, Point, Vertex, corner_at, next_corner, orientation, on_the_way}
use Rattle.swept_check.proofs.Words.{IsInside, Fraction, IsAdmitted, IsBetweenFractions, Crosses, corner_of}
use borrow.Author.Count.{below_more}
use Rattle.swept_check.proofs.SideValues.{side_of-on_the_way}
use Rattle.swept_check.proofs.Parameters.{in_order}

-- the parameter is in the half-plane of edge j
abbrev pub IsAdmittedAt : List Vertex → Vertex → Vertex → ℕ → ℕ → ℕ → Type 0
IsAdmittedAt corners first last j s d =
    let from = corner_at corners j in
    let to = corner_at corners (next_corner (length corners) j) in
    IsAdmitted (orientation from to first) (orientation from to last) s d

-- and in those of all edges below i
abbrev pub IsAdmittedBelow : List Vertex → Vertex → Vertex → ℕ → ℕ → ℕ → Type 0
IsAdmittedBelow corners first last i s d = (j : ℕ) → j < i → IsAdmittedAt corners first last j s d

pub one_more : (corners : List Vertex) (first last : Vertex) (i s d : ℕ)
    → IsAdmittedBelow corners first last (i + 1) s d ↔ (IsAdmittedBelow corners first last i s d × IsAdmittedAt corners first last i s d)
one_more corners first last i s d =
    (λ h. (λ j l. h j (omega arith), h i (omega arith)), λ h. below_more (λ j. IsAdmittedAt corners first last j s d) i h.0 h.1)

-- admitted by all edges: inside
pub inside_of_admitted : (corners : List Vertex) (a b : Point) (s d : ℕ) (p : 0 < d)
    → IsAdmittedBelow corners (corner_of a) (corner_of b) (length corners) s d → IsInside corners (on_the_way a b s d p)
inside_of_admitted corners a b s d p h i l =
    rw (side_of-on_the_way (corner_at corners i) (corner_at corners (next_corner (length corners) i)) a b s d p) (h i l)

pub admitted_of_inside : (corners : List Vertex) (a b : Point) (s d : ℕ) (p : 0 < d)
    → IsInside corners (on_the_way a b s d p) → IsAdmittedBelow corners (corner_of a) (corner_of b) (length corners) s d
admitted_of_inside corners a b s d p h i l =
    rw (side_of-on_the_way (corner_at corners i) (corner_at corners (next_corner (length corners) i)) a b s d p) at (h i l)

-- what is left after all edges, if its entry is not past its exit
pub crosses_between : (corners : List Vertex) (a b : Point) (entry exit : Fraction)
    → ((s d : ℕ) → 0 < d → s ≤ d → IsBetweenFractions entry exit s d ↔ IsAdmittedBelow corners (corner_of a) (corner_of b) (length corners) s d)
    → (entry.numerator * exit.denominator ≤ exit.numerator * entry.denominator) ↔ Crosses corners a b
crosses_between corners a b entry exit h = (
  λ order.
      let p = entry.positive in
      let l = entry.at_most_one in
      let between : IsBetweenFractions entry exit entry.numerator entry.denominator = record { after_entry = omega arith; before_exit = order } in
      record {
        s = entry.numerator;
        d = entry.denominator;
        positive = p;
        on_segment = l;
        inside = inside_of_admitted corners a b entry.numerator entry.denominator p ((h entry.numerator entry.denominator p l).0 between);
      },
  λ x.
      let between = (h x.s x.d x.positive x.on_segment).1 (admitted_of_inside corners a b x.s x.d x.positive x.inside) in
      in_order entry.numerator entry.denominator exit.numerator exit.denominator x.s x.d x.positive between.after_entry between.before_exit,
)

-- no parameter is admitted by some edge: not crossing
pub not_crossing : (corners : List Vertex) (a b : Point) (first last : Vertex) (i next : ℕ) (from to : ℤ)
    → first ≡ corner_of a → last ≡ corner_of b → next ≡ next_corner (length corners) i → i < length corners
    → from ≡ orientation (corner_at corners i) (corner_at corners next) first → to ≡ orientation (corner_at corners i) (corner_at corners next) last
    → ((s d : ℕ) → 0 < d → s ≤ d → ¬ IsAdmitted from to s d) → ¬ Crosses corners a b
not_crossing corners a b first last i next from to of_a of_b of_i l from_is to_is none x =
    let admitted = admitted_of_inside corners a b x.s x.d x.positive x.inside i l in
    none x.s x.d x.positive x.on_segment (rw (from_is, to_is, of_i, of_a, of_b) admitted)
