-- Points that are pushed one by one, each within the room.
use Rattle.shared_tree_tests.proofs.Words.{◌≡◌, ℕ, ◌+◌, ◌≤◌, true, List, [], ◌∷◌, ◌++◌, length, length-append, ap, ◌∙◌, arith, refl, ◌&&◌, nat_le, list_all}
use Rattle.shared_tree_tests.proofs.Words.{le-leb, list_all-append, is_mark, is_plan, Point, MOST_MARKS, MOST_SIDE, Listed}

-- so many points, each one that a mark may have
pub record AreMarks (points : List Point) (n : ℕ) : Type 0 where
  pub marks : list_all (is_mark 1) points ≡ true
  pub count : length points ≡ n

pub AreMarks-none : AreMarks [] 0
AreMarks-none = record { marks = refl; count = refl }

pub AreMarks-push :
    (points after : List Point) (p : Point) (n : ℕ) → AreMarks points n → after ≡ points ++ p ∷ [] → p.x ≤ MOST_SIDE → p.y ≤ MOST_SIDE → AreMarks after (n + 1)
AreMarks-push points after p n marks is low high = record {
  marks =
      ap (list_all (is_mark 1)) is ∙ list_all-append (is_mark 1) points (p ∷ []) ∙ ap (λ b. b && list_all (is_mark 1) (p ∷ [])) marks.marks
      ∙ ap (λ b. (b && nat_le p.y MOST_SIDE) && true) (le-leb p.x MOST_SIDE low) ∙ ap (λ b. b && true) (le-leb p.y MOST_SIDE high);
  count = omega (arith, ap (λ l. length l) is, length-append points (p ∷ []), marks.count);
}

pub is_plan-marks : (points : List Point) (n : ℕ) → AreMarks points n → n ≤ MOST_MARKS → is_plan 1 (Listed points) ≡ true
is_plan-marks points n marks few =
    ap (λ b. b && list_all (is_mark 1) points) (le-leb (length points) MOST_MARKS (omega (arith, marks.count, few))) ∙ marks.marks
