-- The boxes of the first zones, one more.
use Rattle.std.proofs.Common.{◌≡◌, ℕ, ◌+◌, ◌<◌, List, [], ◌∷◌, ◌++◌, length, length-append, get_or, arith}
use Rattle.std.proofs.lemmas.List.{get_or_append_left, get_or_push}
use borrow.Author.Count.{below_more}
use Rattle.plan_model.specs.declared.geometry.Vertex.{Vertex}
use Rattle.convex_sets.specs.declared.bounding_boxes.BoundingBox.{BoundingBox}
use Rattle.convex_sets.specs.Boxes.{IsBoundingBox}

pub record AreFirstBoxes (zones : List (List Vertex)) (boxes : List BoundingBox) (n : ℕ) : Type 0 where
  pub count : length boxes ≡ n
  pub each : (i : ℕ) (d : BoundingBox) → i < n → IsBoundingBox (get_or zones i []) (get_or boxes i d)

pub AreFirstBoxes-push : (zones : List (List Vertex)) (boxes now : List BoundingBox) (n : ℕ) (bounds : BoundingBox) → AreFirstBoxes zones boxes n
    → now ≡ boxes ++ bounds ∷ [] → IsBoundingBox (get_or zones n []) bounds → AreFirstBoxes zones now (n + 1)
AreFirstBoxes-push zones boxes now n bounds h is new =
    let count = h.count in
    let last : (d : BoundingBox) → get_or now n d ≡ bounds = λ d. rw is (get_or_push boxes bounds d n count) in
    let old : (i : ℕ) (d : BoundingBox) → i < n
    → get_or now i d ≡ get_or boxes i d = λ i d l. rw is (get_or_append_left boxes (bounds ∷ []) d i (omega arith)) in
    record {
      count = rw is (omega (arith, length-append boxes (bounds ∷ [])));
      each = λ i d l.
          below_more (λ i. IsBoundingBox (get_or zones i []) (get_or now i d)) n (λ i l. rw (old i d l) (h.each i d l)) (rw (last d) new) i l;
    }
