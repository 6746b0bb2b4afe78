-- The steps of a descent.
use Rattle.obstacle_boxes.proofs.Words.{◌≡◌, ℕ, ◌+◌, ◌<◌, ◌≤◌, true, false, List, [], ◌∷◌, ◌++◌, length, length-append, get_or, take, drop, take-take, refl}
use Rattle.obstacle_boxes.proofs.Words.{subst, arith, ◌∙◌, All, drop_more, drop-append-le, take-append-drop, drop_at, length-take-le, get_or_append_left}
use Rattle.obstacle_boxes.proofs.Words.{All-cons, All-append, All-drop, All-head, All-weaker, Point, Vertex, Crosses, Leaf, Node, Halves, Zone, BoundingBox}
use Rattle.obstacle_boxes.proofs.Words.{Holds, HoldsAll, IsLeafAmong, IsMissed, leaves_met, boxes_meet, segment_box, AreApartBelow, HasSearched, leaves_in}
use Rattle.obstacle_boxes.proofs.Words.{IsAbove, IsTree}
use Rattle.obstacle_boxes.proofs.Counts.{leaves_met-append, leaves_met-cons, leaves_met-apart}
use Rattle.obstacle_boxes.proofs.HeldBoxes.{apart-inner}
use Rattle.obstacle_boxes.proofs.NodeLists.{leaves_in-append}

-- the leaves are those of the first nodes and those of the others
leaves_in-parts : (n : ℕ) (nodes : List Node) → leaves_in nodes ≡ leaves_in (take n nodes) ++ leaves_in (drop n nodes)
leaves_in-parts n nodes =
    subst (λ xs. leaves_in xs ≡ leaves_in (take n nodes) ++ leaves_in (drop n nodes)) (take-append-drop n nodes)
    (leaves_in-append (take n nodes) (drop n nodes))

leaves_in-between : (nodes : List Node) (n m : ℕ) → n ≤ m
    → leaves_in (take m nodes) ≡ leaves_in (take n nodes) ++ leaves_in (drop n (take m nodes))
leaves_in-between nodes n m l = leaves_in-parts n (take m nodes) ∙ (rw (take-take n m nodes l) refl)

-- what is true of all leaves is true of those of the nodes from n on
pub All-leaves_from : (P : Leaf → Type 0) (nodes : List Node) (n : ℕ) → All P (leaves_in nodes) → All P (leaves_in (drop n nodes))
All-leaves_from P nodes n h =
    let front = leaves_in (take n nodes) in
    let rest = leaves_in (drop n nodes) in
    rw (drop_at front rest (length front) refl) at (All-drop P (length front) (front ++ rest) (rw (leaves_in-parts n nodes) at h))

-- the nodes from one number on are those up to another, and those from there on
leaves_from-parts : (nodes : List Node) (first n : ℕ) → first ≤ n → n ≤ length nodes
    → leaves_in (drop first nodes) ≡ leaves_in (drop first (take n nodes)) ++ leaves_in (drop n nodes)
leaves_from-parts nodes first n l m =
    let long : length (take n nodes) ≡ n = length-take-le n nodes m in
    let split : drop first nodes ≡ drop first (take n nodes) ++ drop n nodes
    = subst (λ xs. drop first xs ≡ drop first (take n nodes) ++ drop n nodes) (take-append-drop n nodes)
    (drop-append-le first (take n nodes) (drop n nodes) (omega arith)) in
    rw split (leaves_in-append (drop first (take n nodes)) (drop n nodes))

-- the node with a number, and those after it
leaves_from-none : (nodes : List Node) (n first middle : ℕ) (lower upper : BoundingBox) (d : Node) → n < length nodes
    → get_or nodes n d ≡ Halves first middle lower upper → leaves_in (drop n nodes) ≡ leaves_in (drop (n + 1) nodes)
leaves_from-none nodes n first middle lower upper d l is =
    rw (drop_more nodes n d l) (leaves_in-append (get_or nodes n d ∷ []) (drop (n + 1) nodes) ∙ (rw is refl))

leaves_from-one : (nodes : List Node) (n : ℕ) (leaf : Leaf) (d : Node) → n < length nodes → get_or nodes n d ≡ Zone leaf
    → leaves_in (drop n nodes) ≡ leaf ∷ leaves_in (drop (n + 1) nodes)
leaves_from-one nodes n leaf d l is =
    rw (drop_more nodes n d l) (leaves_in-append (get_or nodes n d ∷ []) (drop (n + 1) nodes) ∙ (rw is refl))

-- a segment whose box is apart from that of a leaf misses its zone
missed-apart : (zones : List (List Vertex)) (a b : Point) (leaf : Leaf) → IsLeafAmong zones leaf
    → boxes_meet (segment_box a b) leaf.bounds ≡ false → IsMissed zones a b leaf
missed-apart zones a b leaf h apart x = absurd (let m = h.meets a b x in cc)

-- leaves that are apart are passed over
HasSearched-apart : {nodes : List Node} {zones : List (List Vertex)} {a b : Point} {before now : ℕ} (first n : ℕ) → HasSearched nodes zones a b before now n
    → first ≤ n → All (IsLeafAmong zones) (leaves_in nodes)
    → All (λ leaf. boxes_meet (segment_box a b) leaf.bounds ≡ false) (leaves_in (drop first (take n nodes))) → HasSearched nodes zones a b before now first
HasSearched-apart {nodes} {zones} {a} {b} {before} {now} first n h l leaves apart =
    let within = h.within in
    let tested = h.tested in
    let middle = leaves_in (drop first (take n nodes)) in
    let rest = leaves_in (drop n nodes) in
    let parts = leaves_from-parts nodes first n l within in
    let among : All (IsLeafAmong zones) (middle ++ rest) = rw parts at (All-leaves_from (IsLeafAmong zones) nodes first leaves) in
    let long = length-append middle rest in
    let missed : All (IsMissed zones a b) middle = λ k d at.
    (let here : IsLeafAmong zones (get_or middle k d) = rw (get_or_append_left middle rest d k at) at (among k d (omega arith)) in
    missed-apart zones a b (get_or middle k d) here (apart k d at)) in
    let none = leaves_met-apart (segment_box a b) middle apart in
    let count = leaves_met-append (segment_box a b) middle rest in
    record {
      within = omega arith;
      missed = rw parts (All-append (IsMissed zones a b) middle rest missed h.missed);
      tested = rw parts (omega arith);
    }

-- a node above others stands for no zone itself
pub HasSearched-into : {nodes : List Node} {zones : List (List Vertex)} {a b : Point} {before now : ℕ} (n first middle : ℕ) (lower upper : BoundingBox)
    (d : Node) → HasSearched nodes zones a b before now (n + 1) → n < length nodes → get_or nodes n d ≡ Halves first middle lower upper
    → HasSearched nodes zones a b before now n
HasSearched-into {nodes} {zones} {a} {b} {before} {now} n first middle lower upper d h l is =
    let same = leaves_from-none nodes n first middle lower upper d l is in
    record { within = omega arith; missed = rw same h.missed; tested = rw same h.tested }

-- leaves within a box that is apart are apart
apart-within : (a b : Point) (bounds : BoundingBox) (leaves : List Leaf) → HoldsAll bounds leaves → boxes_meet (segment_box a b) bounds ≡ false
    → All (λ leaf. boxes_meet (segment_box a b) leaf.bounds ≡ false) leaves
apart-within a b bounds leaves holds apart =
    All-weaker (λ leaf. Holds bounds leaf.bounds) (λ leaf. boxes_meet (segment_box a b) leaf.bounds ≡ false)
    (λ leaf inner. apart-inner (segment_box a b) bounds leaf.bounds inner apart) leaves holds

-- if its upper half is apart, the nodes of that are passed over
pub HasSearched-over : {nodes : List Node} {zones : List (List Vertex)} {a b : Point} {before now : ℕ} (n first middle : ℕ) (lower upper : BoundingBox)
    (d : Node) → HasSearched nodes zones a b before now (n + 1) → n < length nodes → get_or nodes n d ≡ Halves first middle lower upper → IsTree nodes
    → All (IsLeafAmong zones) (leaves_in nodes) → boxes_meet (segment_box a b) upper ≡ false
    → HasSearched nodes zones a b before now middle
HasSearched-over {nodes} {zones} {a} {b} {before} {now} n first middle lower upper d h l is tree leaves apart =
    let here : IsAbove nodes lower upper first middle n = tree n first middle lower upper d l is in
    HasSearched-apart middle n (HasSearched-into n first middle lower upper d h l is) here.later leaves
    (apart-within a b upper (leaves_in (drop middle (take n nodes))) here.upper_holds apart)

-- the leaves up to one number are among those up to a greater one
AreApartBelow-less : (nodes : List Node) (a b : Point) (n m : ℕ) → n ≤ m → AreApartBelow nodes a b m → AreApartBelow nodes a b n
AreApartBelow-less nodes a b n m l h =
    let front = leaves_in (take n nodes) in
    let rest = leaves_in (drop n (take m nodes)) in
    let long = length-append front rest in
    let all : All (λ leaf. boxes_meet (segment_box a b) leaf.bounds ≡ false) (front ++ rest) = rw (leaves_in-between nodes n m l) at h in
    λ k d at. rw (get_or_append_left front rest d k at) at (all k d (omega arith))

-- if the lower half of a node is apart, and all before it are, those before the upper half are
pub AreApartBelow-over : (nodes : List Node) (a b : Point) (low n first middle : ℕ) (lower upper : BoundingBox) (d : Node) → AreApartBelow nodes a b low
    → first ≤ low → n < length nodes → get_or nodes n d ≡ Halves first middle lower upper → IsTree nodes → boxes_meet (segment_box a b) lower ≡ false
    → AreApartBelow nodes a b middle
AreApartBelow-over nodes a b low n first middle lower upper d h l at is tree apart =
    let here : IsAbove nodes lower upper first middle n = tree n first middle lower upper d at is in
    let P : Leaf → Type 0 = λ leaf. boxes_meet (segment_box a b) leaf.bounds ≡ false in
    let front = leaves_in (take first nodes) in
    let rest = leaves_in (drop first (take middle nodes)) in
    rw (leaves_in-between nodes first middle here.earlier)
    (All-append P front rest (AreApartBelow-less nodes a b first low l h) (apart-within a b lower rest here.lower_holds apart))

-- at the end the nodes that are left are apart
pub HasSearched-all : {nodes : List Node} {zones : List (List Vertex)} {a b : Point} {before now : ℕ} (low n : ℕ) → HasSearched nodes zones a b before now n
    → AreApartBelow nodes a b low → n ≤ low → All (IsLeafAmong zones) (leaves_in nodes) → HasSearched nodes zones a b before now 0
HasSearched-all {nodes} {zones} {a} {b} {before} {now} low n h apart l leaves =
    HasSearched-apart 0 n h (omega arith) leaves (AreApartBelow-less nodes a b n low l apart)

-- the leaf of a zone among the nodes
pub leaf-among : (nodes : List Node) (zones : List (List Vertex)) (n : ℕ) (leaf : Leaf) (d : Node) → n < length nodes → get_or nodes n d ≡ Zone leaf
    → All (IsLeafAmong zones) (leaves_in nodes) → IsLeafAmong zones leaf
leaf-among nodes zones n leaf d l is leaves =
    All-head (IsLeafAmong zones) leaf (leaves_in (drop (n + 1) nodes))
    (rw (leaves_from-one nodes n leaf d l is) at (All-leaves_from (IsLeafAmong zones) nodes n leaves))

-- a zone whose box is apart, and one that was tested and is missed
pub HasSearched-past : {nodes : List Node} {zones : List (List Vertex)} {a b : Point} {before now : ℕ} (n : ℕ) (leaf : Leaf) (d : Node)
    → HasSearched nodes zones a b before now (n + 1) → n < length nodes → get_or nodes n d ≡ Zone leaf
    → All (IsLeafAmong zones) (leaves_in nodes) → boxes_meet (segment_box a b) leaf.bounds ≡ false → HasSearched nodes zones a b before now n
HasSearched-past {nodes} {zones} {a} {b} {before} {now} n leaf d h l is leaves apart =
    let rest = leaves_in (drop (n + 1) nodes) in
    let more = leaves_from-one nodes n leaf d l is in
    let missed = missed-apart zones a b leaf (leaf-among nodes zones n leaf d l is leaves) apart in
    let count = leaves_met-cons (segment_box a b) leaf rest false apart in
    let tested = h.tested in
    record {
      within = omega arith;
      missed = rw more (All-cons (IsMissed zones a b) leaf rest missed h.missed);
      tested = rw more (omega arith);
    }

pub HasSearched-tested : {nodes : List Node} {zones : List (List Vertex)} {a b : Point} {before now : ℕ} (n : ℕ) (leaf : Leaf) (d : Node)
    → HasSearched nodes zones a b before now (n + 1) → n < length nodes → get_or nodes n d ≡ Zone leaf
    → boxes_meet (segment_box a b) leaf.bounds ≡ true → ¬ Crosses (get_or zones leaf.zone []) a b
    → HasSearched nodes zones a b before (now + 1) n
HasSearched-tested {nodes} {zones} {a} {b} {before} {now} n leaf d h l is near missed =
    let rest = leaves_in (drop (n + 1) nodes) in
    let more = leaves_from-one nodes n leaf d l is in
    let count = leaves_met-cons (segment_box a b) leaf rest true near in
    let tested = h.tested in
    record {
      within = omega arith;
      missed = rw more (All-cons (IsMissed zones a b) leaf rest missed h.missed);
      tested = rw more (omega arith);
    }

-- one test more is within the count if the zone that was tested is near
pub tested-within : {nodes : List Node} {zones : List (List Vertex)} {a b : Point} {before now : ℕ} (n : ℕ) (leaf : Leaf) (d : Node)
    → HasSearched nodes zones a b before now (n + 1) → n < length nodes → get_or nodes n d ≡ Zone leaf
    → boxes_meet (segment_box a b) leaf.bounds ≡ true → now + 1 ≤ before + leaves_met (segment_box a b) (leaves_in nodes)
tested-within {nodes} {zones} {a} {b} {before} {now} n leaf d h l is near =
    let rest = leaves_in (drop (n + 1) nodes) in
    let more = leaves_from-one nodes n leaf d l is in
    let count = leaves_met-cons (segment_box a b) leaf rest true near in
    let front = leaves_in (take n nodes) in
    let whole = leaves_met-append (segment_box a b) front (leaf ∷ rest) in
    rw (leaves_in-parts n nodes, more) (omega arith)
