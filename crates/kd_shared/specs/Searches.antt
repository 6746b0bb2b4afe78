-- What a search over what is seen has found, from the moment at which it began to the moment at which it returns.
use Rattle.std.specs.Prelude.{◌≡◌, ◌⊎◌, ℕ, ◌==◌, ◌*◌, ◌≤◌, true, eqb, List, Contains, ◌-◌, Bool, false, not, if◌then◌else◌, Some, [], ◌∷◌, ◌++◌, ◌<◌, Option}
use Rattle.std.specs.Prelude.{None, MatchOption}
use Rattle.kd_shared.specs.Terms.{Found, IsDistinct, IsLaterMoment, IsNearest, IsNotAbove, IsPresent, IsSwept, KeepsSight, Point, SeenTree, Sight, Spot}
use Rattle.kd_shared.specs.Terms.{StandsAt, Stop, StopsAt, WordStop, distance_to, goes_right_by, is_within, near, numbers_of, point_at, point_in}
use Rattle.kd_shared.specs.Terms.{point_of_spot, split_distance, squared_distance}
use Rattle.kd_shared.specs.Looking.{FindsEmpty, KeepsOtherPoints, KeepsPoints}

-- ---- Where a walk by words has come to.
-- one of the two coordinates stands so far from the right end of a word
abbrev pub IsShift : ℕ → Type 0
IsShift shift = (shift ≡ 0) ⊎ (shift ≡ 20)

-- the stop of a walk by points
abbrev pub stop_of : WordStop → Stop
stop_of at = record { depth = at.depth; node = at.node; by_rows = at.shift == 20; here = point_in at.word }

-- The way of p has this node at this depth.
pub record StopsAtWord (tree : SeenTree) (p : Point) (at : WordStop) : Type 0 where
  pub stops : StopsAt tree p (stop_of at)
  pub shift : IsShift at.shift

-- ---- searches
-- The search has swept all points whose squared distance to p is at most this.
abbrev pub SweepsWithin : Sight → Sight → Point → ℕ → Type 0
SweepsWithin before after p bound = (q : Point) → squared_distance q p ≤ bound → IsSwept after before.steps q

-- Node best is seen, and nearest to p of the nodes seen with their points, at return and before. All points at most as far are swept.
pub record IsNearestSeen (before after : Sight) (p : Point) (best : ℕ) : Type 0 where
  pub nearest : IsNearest after.seen.points p best
  pub not_above : (n : ℕ) → IsPresent before.seen.points n → IsNotAbove (distance_to p after.seen.points) best n
  pub swept : SweepsWithin before after p (distance_to p after.seen.points best)

-- The list has the nodes seen with their points that are within r of p, in rising number. All points within r are swept.
pub record AreNearSeen (before after : Sight) (p : Point) (r : ℕ) (found : List ℕ) : Type 0 where
  pub all : found ≡ near after.seen.points p r
  pub swept : SweepsWithin before after p (r * r)

-- Each node seen with its point that is within r of p was found once, with its squared distance and no cost of an edge, and nothing else
-- was. All points within r are swept.
pub record AreGathered (before after : Sight) (p : Point) (r : ℕ) (found : List Found) : Type 0 where
  pub once : IsDistinct eqb (numbers_of found)
  pub all : (n : ℕ) → is_within p r (point_at after.seen.points n) ≡ true → Contains (numbers_of found) n
  pub only : (f : Found) → Contains found f → (at : Point) × StandsAt after.seen.points f.node at × (f.distance ≡ squared_distance at p)
      × (f.distance ≤ r * r) × (f.edge ≡ 0)
  pub swept : SweepsWithin before after p (r * r)

-- ---- What the steps of a search do to the nodes that wait to be visited.
-- The node of a spot has a child on this side, which waits now, last.
pub record Puts (after : Sight) (spots put : List Spot) (spot : Spot) (side : Bool) : Type 0 where
  pub child : Spot
  pub link : after.seen.child spot.node side ≡ Some child.node
  pub by_rows : child.by_rows ≡ not spot.by_rows
  pub last : put ≡ spots ++ child ∷ []

-- The child on this side was loaded: there is none, or it waits.
abbrev pub Opens : Sight → Sight → List Spot → List Spot → Spot → Bool → Type 0
Opens before after spots put spot side = (FindsEmpty before after spot.node side × (put ≡ spots)) ⊎ Puts after spots put spot side

-- A child waits with its point, which was loaded too.
abbrev pub PutsWithPoint : Sight → Sight → List Spot → List Spot → Spot → Bool → Type 0
PutsWithPoint before after queue put spot side = (new : Puts after queue put spot side)
    × StandsAt after.seen.points new.child.node (point_of_spot new.child) × KeepsOtherPoints before after new.child.node

pub record QueuesChild (before after : Sight) (queue put : List Spot) (spot : Spot) (side : Bool) : Type 0 where
  pub later : IsLaterMoment before after
  pub keeps : KeepsSight after
  pub queues : (FindsEmpty before after spot.node side × (put ≡ queue) × KeepsPoints before after) ⊎ PutsWithPoint before after queue put spot side

-- how far a row or a column is from those on one side of a line
abbrev pub past_line : ℕ → ℕ → Bool → ℕ
past_line line at right = if right then line - at else at - line

-- how far q is from one side of a node at p, whose children are split by row or by column: 0 if q is on that side
abbrev pub side_distance : Bool → Point → Point → Bool → ℕ
side_distance by_rows p q right = if by_rows then past_line p.y q.y right else past_line p.x q.x right

-- The child on a side is left out.
pub record LeavesChild (before after : Sight) (queue put : List Spot) : Type 0 where
  pub later : IsLaterMoment before after
  pub keeps : KeepsSight after
  pub same : put ≡ queue
  pub points : KeepsPoints before after

-- It is queued, or left out if its side is not within reach.
abbrev pub QueuesWithin : Sight → Sight → List Spot → List Spot → Spot → Bool → Bool → Type 0
QueuesWithin before after queue put spot side within =
    ((within ≡ false) × LeavesChild before after queue put) ⊎ QueuesChild before after queue put spot side

-- This is the spot of the child on a side: if it waits, unless it is node 0, the child is queued, or left out if its side is not within reach.
abbrev pub IsChildWithin : Sight → Sight → Spot → Bool → Bool → Spot → Type 0
IsChildWithin before after spot side within child =
    (queue put : List Spot) → put ≡ (if not (child.node == 0) then queue ++ child ∷ [] else queue) → QueuesWithin before after queue put spot side within

-- ---- What the steps of a walk to the nearest node do to the nodes on its stack, whose far sides are left to walk.
-- the side of a node on which the target is, and the other one
abbrev pub near_side : Spot → Point → Bool
near_side spot target = goes_right_by spot.by_rows (point_of_spot spot) target

abbrev pub far_side : Spot → Point → Bool
far_side spot target = not (near_side spot target)

-- the squared distance of the target from the line between them
abbrev pub line_square : Spot → Point → ℕ
line_square spot target = split_distance spot.by_rows (point_of_spot spot) target * split_distance spot.by_rows (point_of_spot spot) target

-- ---- a child
-- It is that of the node on this side, and its point was loaded.
pub record IsChildSpot (before after : Sight) (spot : Spot) (side : Bool) (child : Spot) : Type 0 where
  pub link : after.seen.child spot.node side ≡ Some child.node
  pub by_rows : child.by_rows ≡ not spot.by_rows
  pub stands : StandsAt after.seen.points child.node (point_of_spot child)
  pub others : KeepsOtherPoints before after child.node

-- The child on a side was loaded with its point, or there is none.
pub record LoadsSpot (before after : Sight) (spot : Spot) (side : Bool) (child : Option Spot) : Type 0 where
  pub later : IsLaterMoment before after
  pub keeps : KeepsSight after
  pub finds : MatchOption child (FindsEmpty before after spot.node side × KeepsPoints before after) (IsChildSpot before after spot side)

-- ---- the stack
-- The far side of a node is empty, or too far.
abbrev pub IsFinished : Sight → Sight → Point → ℕ → Spot → Type 0
IsFinished before after target bound spot = FindsEmpty before after spot.node (far_side spot target) ⊎ (bound < line_square spot target)

-- A node is put on the stack, unless its far side is finished.
pub record StacksFar (before after : Sight) (target : Point) (bound : ℕ) (stack put : List Spot) (spot : Spot) : Type 0 where
  pub later : IsLaterMoment before after
  pub keeps : KeepsSight after
  pub points : KeepsPoints before after
  pub stacks : (IsFinished before after target bound spot × (put ≡ stack)) ⊎ (put ≡ stack ++ spot ∷ [])

-- The child on the far side of a node, or it is finished.
pub record LoadsFar (before after : Sight) (target : Point) (bound : ℕ) (spot : Spot) (child : Option Spot) : Type 0 where
  pub later : IsLaterMoment before after
  pub keeps : KeepsSight after
  pub finds : MatchOption child (IsFinished before after target bound spot × KeepsPoints before after)
      (IsChildSpot before after spot (far_side spot target))

-- Nodes were popped until one has a child on its far side: the others are finished. If none has one, all are.
pub record PopsFar (before after : Sight) (target : Point) (bound : ℕ) (stack rest : List Spot) (child : Option Spot) : Type 0 where
  pub later : IsLaterMoment before after
  pub keeps : KeepsSight after
  pub popped : List Spot
  pub finished : (spot : Spot) → Contains popped spot → IsFinished before after target bound spot
  pub found : MatchOption child ((rest ≡ []) × (stack ≡ popped) × KeepsPoints before after)
      (λ c. (above : Spot) × (stack ≡ rest ++ above ∷ popped) × IsChildSpot before after above (far_side above target) c)

-- The next node is the child on the near side, or, if there is none, one that is popped.
abbrev pub WalksOn : Sight → Sight → Point → ℕ → Spot → List Spot → List Spot → Option Spot → Type 0
WalksOn before after target bound spot stack rest child =
    ((c : Spot) × (child ≡ Some c) × (rest ≡ stack) × LoadsSpot before after spot (near_side spot target) (Some c))
    ⊎ ((mid : Sight) × LoadsSpot before mid spot (near_side spot target) None × PopsFar mid after target bound stack rest child)
