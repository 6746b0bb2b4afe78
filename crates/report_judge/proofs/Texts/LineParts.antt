-- The texts of lines as words and numbers one after another.
use Rattle.report_judge.proofs.Words.{◌≡◌, ℕ, ◌<◌, ◌^◌, List, [], ◌∷◌, ◌++◌, sym, ◌∙◌, append_assoc, decimal, codes, append_cancel_left, Point, Knot, field}
use Rattle.report_judge.proofs.Words.{line_text, point_field, NodeLine, PathOf, PathPoint}
use Rattle.report_judge.proofs.Texts.FieldWords.{same_fields}

-- Texts that begin with the same word, a number and the same byte, and are the same, begin with the same number.
pub same_field : (text word : List ℕ) (n m e : ℕ) (x y : List ℕ) → n < 2 ^ 64 → m < 2 ^ 64 → e < 48 → text ≡ field word n e x → text ≡ field word m e y
    → (n ≡ m) × (x ≡ y)
same_field text word n m e x y few also low one other =
    same_fields n m e x y few also low (append_cancel_left word (decimal n ++ e ∷ x) (decimal m ++ e ∷ y) (sym one ∙ other))

pub parts-point : (p : Point) (rest : List ℕ) → line_text (PathPoint p) ++ rest ≡ point_field [] p 10 rest
parts-point p rest = simp append_assoc

pub parts-node : (n : ℕ) (knot : Knot) (rest : List ℕ) → line_text (NodeLine n knot) ++ rest
    ≡ field (codes "node ") n 32 (point_field (codes "at ") knot.point 32 (field (codes "parent ") knot.parent 32 (field (codes "cost ") knot.cost 10 rest)))
parts-node n knot rest = simp append_assoc

pub parts-path : (points cost : ℕ) (rest : List ℕ) → line_text (PathOf points cost) ++ rest
    ≡ field (codes "path ") points 32 (field (codes "cost ") cost 10 rest)
parts-path points cost rest = simp append_assoc
