-- What a tree over the zones of a space says of any list of these zones, and of their boxes.
use Rattle.obstacle_boxes.proofs.Words.{◌≡◌, ◌<◌, Bool, true, false, List, [], length, get_or, refl, arith, ◌∙◌, cond, All, IsTrue, pos, All-get_or}
use Rattle.obstacle_boxes.proofs.Words.{All-from_get_or, All-permutation, IsPermutation-sym, sum_by-IsPermutation, Point, Vertex, ConfigurationSpace}
use Rattle.obstacle_boxes.proofs.Words.{BoundingBox, IsConvex-from_test, Crosses, AreZonesOf, CrossesNone, Leaf, Node, IsLeafAmong, IsMissed, leaves_met}
use Rattle.obstacle_boxes.proofs.Words.{boxes_meet, segment_box, AreZoneBoxes, near_count, CrossesSome, IsTreeOver, leaves_in, meets-crossed}
use Rattle.obstacle_boxes.proofs.Counts.{count_by-agree}
use Rattle.obstacle_boxes.proofs.SameZones.{Crosses-other, meets-other}

abbrev pub no_box : BoundingBox
no_box = record { low = record { x = pos 0; y = pos 0 }; high = record { x = pos 0; y = pos 0 } }

abbrev pub no_leaf : Leaf
no_leaf = record { bounds = no_box; zone = 0 }

-- the leaves are those of any zones of the space
pub leaves-among : (space : ConfigurationSpace) (nodes : List Node) (zones : List (List Vertex)) → IsTreeOver space nodes
    → AreZonesOf space zones → All (IsLeafAmong zones) (leaves_in nodes)
leaves-among space nodes zones h g =
    All-permutation (IsLeafAmong zones) h.leaves (leaves_in nodes) h.permutation (All-from_get_or (IsLeafAmong zones) h.leaves no_leaf (λ i l. (
    let leaf = get_or h.leaves i no_leaf in
    let number = h.are_leaves.number i no_leaf l in
    let bounds = h.are_leaves.bounds i no_leaf l in
    let at : i < length space.obstacles = omega arith in
    let one = h.are_zones.each i at in
    let two = g.each i at in
    record {
      within = rw number (omega arith);
      meets = λ a b x. (
          let here : Crosses (get_or zones i []) a b = rw number at x in
          meets-crossed (get_or h.zones i []) a b leaf.bounds (IsConvex-from_test (get_or h.zones i []) one.convex) bounds
          (Crosses-other space.clearance space.body (get_or space.obstacles i []) (get_or zones i []) (get_or h.zones i []) a b two one here));
    })))

-- if no leaf's zone is crossed, no zone is
pub CrossesNone-leaves : (space : ConfigurationSpace) (nodes : List Node) (zones : List (List Vertex)) (a b : Point) → IsTreeOver space nodes
    → AreZonesOf space zones → All (IsMissed zones a b) (leaves_in nodes) → CrossesNone zones a b
CrossesNone-leaves space nodes zones a b h g missed =
    let all = All-permutation (IsMissed zones a b) (leaves_in nodes) h.leaves (IsPermutation-sym h.leaves (leaves_in nodes) h.permutation) missed in
    All-from_get_or (λ zone. ¬ Crosses zone a b) zones [] (λ i l x. (
    let at : i < length h.leaves = omega arith in
    let number = h.are_leaves.number i no_leaf at in
    all i no_leaf at (rw number x)))

-- the leaves whose boxes meet that of a segment are as many as the boxes that do
pub leaves_met-near : (space : ConfigurationSpace) (nodes : List Node) (boxes : List BoundingBox) (a b : Point) → IsTreeOver space nodes
    → AreZoneBoxes space boxes → leaves_met (segment_box a b) (leaves_in nodes) ≡ near_count boxes a b
leaves_met-near space nodes boxes a b h g =
    let s = segment_box a b in
    sum_by-IsPermutation (λ leaf. cond (boxes_meet s leaf.bounds) 1 0) h.leaves (leaves_in nodes) h.permutation ∙ same
  where
    same : leaves_met (segment_box a b) h.leaves ≡ near_count boxes a b
    same =
        count_by-agree (λ leaf. boxes_meet (segment_box a b) leaf.bounds) (boxes_meet (segment_box a b)) h.leaves boxes (omega arith) (λ i d e l. (
        let at : i < length space.obstacles = omega arith in
        let within : i < length g.zones = omega arith in
        meets-other space.clearance space.body (get_or space.obstacles i []) (get_or h.zones i []) (get_or g.zones i []) (get_or h.leaves i d).bounds
        (get_or boxes i e) (segment_box a b) (h.are_zones.each i at) (g.are_zones.each i at) (h.are_leaves.bounds i d l) (g.each i e within)))

-- an answer that is not false is true
pub true_unless : (t : Bool) → ¬ (t ≡ false) → IsTrue t
true_unless true h = refl
true_unless false h = absurd (h refl)

-- if one zone is crossed, not all are missed
pub not_none : (zones : List (List Vertex)) (a b : Point) → CrossesSome zones a b → ¬ CrossesNone zones a b
not_none zones a b some none = All-get_or (λ zone. ¬ Crosses zone a b) zones some.number [] some.within none some.crosses
