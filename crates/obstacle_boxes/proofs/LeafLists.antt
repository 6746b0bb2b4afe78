-- Lists of leaves that grow at their end.
use Rattle.obstacle_boxes.proofs.Words.{◌≡◌, ℕ, ◌+◌, ◌<◌, List, [], ◌∷◌, ◌++◌, length, length-append, get_or, take, drop, arith, IsPermutation}
use Rattle.obstacle_boxes.proofs.Words.{get_or_append_left, get_or_push, take-append-le, take_all, length_permutation, Vertex, IsBoundingBox, Leaf, AreLeavesOf}
use borrow.Author.Count.{below_more}

-- the leaf of one zone more
pub AreLeavesOf-push : (zones : List (List Vertex)) (n : ℕ) (leaves now : List Leaf) (leaf : Leaf) → AreLeavesOf zones n leaves → now ≡ leaves ++ leaf ∷ []
    → leaf.zone ≡ n → IsBoundingBox (get_or zones n []) leaf.bounds → AreLeavesOf zones (n + 1) now
AreLeavesOf-push zones n leaves now leaf h is number bounds =
    let count = h.count in
    let long : length now ≡ n + 1 = rw is (omega (arith, length-append leaves (leaf ∷ []))) in
    let last : (d : Leaf) → get_or now n d ≡ leaf = λ d. rw is (get_or_push leaves leaf d n count) in
    let old : (i : ℕ) (d : Leaf) → i < n → get_or now i d ≡ get_or leaves i d = λ i d l. rw is (get_or_append_left leaves (leaf ∷ []) d i (omega arith)) in
    record {
      count = long;
      number = λ i d l.
          below_more (λ i. (get_or now i d).zone ≡ i) n (λ i l. rw (old i d l) (h.number i d (omega arith))) (rw (last d) number) i (omega arith);
      bounds = λ i d l.
          below_more (λ i. IsBoundingBox (get_or zones i []) (get_or now i d).bounds) n (λ i l. rw (old i d l) (h.bounds i d (omega arith)))
          (rw (last d) bounds) i (omega arith);
    }

-- a list that was put in another order within its place
pub reordered : (leaves now : List Leaf) (n : ℕ) → n ≡ length leaves → IsPermutation leaves now → take n (now ++ drop (length now) leaves) ≡ now
reordered leaves now n all h =
    let long = length_permutation leaves now h in
    rw (take-append-le n now (drop (length now) leaves) (omega arith)) (take_all n now (omega arith))
