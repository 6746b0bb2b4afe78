-- Lists of nodes that grow at their end.
use Rattle.obstacle_boxes.proofs.Words.{◌≡◌, inl, inr, ℕ, ◌+◌, ◌≤◌, List, [], ◌∷◌, ◌++◌, length, length-append, take, drop, refl, arith, append_assoc, ◌∙◌}
use Rattle.obstacle_boxes.proofs.Words.{append-nil, drop_at, take-append-le, take_all, get_or_append_left, get_or_push, filter_map-append, cases_lt}
use Rattle.obstacle_boxes.proofs.Words.{BoundingBox, Leaf, Node, Halves, Zone, HoldsAll, leaf_of, leaves_in, IsAbove, IsTree, Adds}

pub leaves_in-append : (xs ys : List Node) → leaves_in (xs ++ ys) ≡ leaves_in xs ++ leaves_in ys
leaves_in-append xs ys = filter_map-append leaf_of xs ys

-- the nodes between two numbers are the same in a longer list
take-longer : (nodes : List Node) (node : Node) (n : ℕ) → n ≤ length nodes → take n (nodes ++ node ∷ []) ≡ take n nodes
take-longer nodes node n l = take-append-le n nodes (node ∷ []) l

IsAbove-longer : (nodes : List Node) (node : Node) (lower upper : BoundingBox) (first middle n : ℕ) → n ≤ length nodes
    → IsAbove nodes lower upper first middle n → IsAbove (nodes ++ node ∷ []) lower upper first middle n
IsAbove-longer nodes node lower upper first middle n l h =
    let later = h.later in
    record {
      earlier = h.earlier;
      later = later;
      lower_holds = rw (take-longer nodes node middle (omega arith)) h.lower_holds;
      upper_holds = rw (take-longer nodes node n l) h.upper_holds;
    }

-- a node more at the end of a tree
pub IsTree-push : (nodes : List Node) (node : Node)
    → ((first middle : ℕ) (lower upper : BoundingBox) → node ≡ Halves first middle lower upper → IsAbove nodes lower upper first middle (length nodes))
    → IsTree nodes → IsTree (nodes ++ node ∷ [])
IsTree-push nodes node above tree n first middle lower upper d l e =
    elim (cases_lt n (length nodes)) [
      | inl earlier ↦ (
          let is = get_or_append_left nodes (node ∷ []) d n earlier in
          IsAbove-longer nodes node lower upper first middle n (omega arith) (tree n first middle lower upper d earlier (rw is at e)))
      | inr last ↦ (
          let long = length-append nodes (node ∷ []) in
          let at : length nodes ≡ n = omega arith in
          let is = get_or_push nodes node d n at in
          let here = above first middle lower upper (rw is at e) in
          rw (← at) (IsAbove-longer nodes node lower upper first middle (length nodes) (omega arith) here))
    ]

-- a leaf more
pub Adds-leaf : (leaves : List Leaf) (leaf : Leaf) (before now after : List Node) → Adds leaves before now
    → after ≡ now ++ Zone leaf ∷ [] → Adds (leaves ++ leaf ∷ []) before after
Adds-leaf leaves leaf before now after h is =
    let node : Node = Zone leaf in
    record {
      added = h.added ++ node ∷ [];
      is = is ∙ (rw h.is (append_assoc before h.added (node ∷ [])));
      leaves_are = leaves_in-append h.added (node ∷ []) ∙ (rw h.leaves_are refl);
      tree = λ t. rw is (IsTree-push now node (λ first middle lower upper e. absurd cc) (h.tree t));
    }

-- the leaves of one list, then those of another, and a node above both
pub Adds-halves : (xs ys : List Leaf) (lower upper : BoundingBox) (before middle now after : List Node) → Adds xs before middle → Adds ys middle now
    → HoldsAll lower xs → HoldsAll upper ys → after ≡ now ++ Halves (length before) (length middle) lower upper ∷ [] → Adds (xs ++ ys) before after
Adds-halves xs ys lower upper before middle now after h g lower_holds upper_holds is =
    let node : Node = Halves (length before) (length middle) lower upper in
    let long : length middle ≡ length before + length h.added = rw h.is (length-append before h.added) in
    let long2 : length now ≡ length middle + length g.added = rw g.is (length-append middle g.added) in
    let to_middle : take (length middle) now ≡ middle
    = rw g.is (take-append-le (length middle) middle g.added (omega arith) ∙ take_all (length middle) middle (omega arith)) in
    let one : drop (length before) (take (length middle) now) ≡ h.added = rw to_middle (rw h.is (drop_at before h.added (length before) refl)) in
    let two : drop (length middle) (take (length now) now) ≡ g.added
    = rw (take_all (length now) now (omega arith)) (rw g.is (drop_at middle g.added (length middle) refl)) in
    let all : now ≡ before ++ (h.added ++ g.added) = g.is ∙ (rw h.is (append_assoc before h.added g.added)) in
    record {
      added = (h.added ++ g.added) ++ node ∷ [];
      is = is ∙ (rw all (append_assoc before (h.added ++ g.added) (node ∷ [])));
      leaves_are = leaves_in-append (h.added ++ g.added) (node ∷ []) ∙ append-nil (leaves_in (h.added ++ g.added))
          ∙ (rw (leaves_in-append h.added g.added, h.leaves_are, g.leaves_are) refl);
      tree = λ t. rw is (IsTree-push now node (λ f m l u e. (
          let first_is : f ≡ length before = cc in
          let middle_is : m ≡ length middle = cc in
          let lower_is : l ≡ lower = cc in
          let upper_is : u ≡ upper = cc in
          rw (first_is, middle_is, lower_is, upper_is) (record {
            earlier = omega arith;
            later = omega arith;
            lower_holds = rw (one, h.leaves_are) lower_holds;
            upper_holds = rw (two, g.leaves_are) upper_holds;
          }))) (g.tree (h.tree t)));
    }

-- what was added to an empty list is the list, and it is a tree
pub leaves-added : (leaves : List Leaf) (before after : List Node) → before ≡ [] → Adds leaves before after → leaves_in after ≡ leaves
leaves-added leaves before after none h = rw (h.is, none) h.leaves_are

pub tree-added : (leaves : List Leaf) (before after : List Node) → before ≡ [] → Adds leaves before after → IsTree after
tree-added leaves before after none h = h.tree (rw none (λ n first middle lower upper d l e. absurd (omega (arith, l))))
