-- What a worker has seen of a tree, and by which of its steps: its later moments, what it takes over from another, and which points a call has swept.
use Rattle.std.specs.Prelude.{◌≡◌, ◌≢◌, ◌⊎◌, ℕ, ◌<◌, ◌≤◌, nat_lt, max, Bool, Option, Some, None, if◌then◌else◌}
use Rattle.plan_model.specs.Terms.{Point, option_or}
use Rattle.plan_model.specs.Trees.NodeLists.{point_at, StandsAt, IsFree}
use Rattle.plan_model.specs.Seen.SeenTrees.{SeenTree, IsRooted, FollowSeenWays, HasSeenAtLeast, goes_right, IsOnWay}

-- What was seen, how many steps the worker has made, and for each place of a child the last of them that found it empty, also after it
-- was filled: steps are numbered from 1, and 0 is none.
pub record Sight : Type 0 where
  pub seen : SeenTree
  pub steps : ℕ
  pub found_empty : ℕ → Bool → ℕ

-- What is seen is seen from node 0 on and follows ways, and what was found empty was found so by a step that the worker has made.
pub record KeepsSight (sight : Sight) : Type 0 where
  pub rooted : IsRooted sight.seen
  pub ways : FollowSeenWays sight.seen
  pub steps : (n : ℕ) (side : Bool) → sight.found_empty n side ≤ sight.steps

-- ---- later
-- the step that last found a place empty is the same, or one since then, and no child was seen there before
abbrev pub KeepsOrFindsEmpty : Sight → Sight → ℕ → Bool → Type 0
KeepsOrFindsEmpty before after n side = (after.found_empty n side ≡ before.found_empty n side)
    ⊎ ((before.steps < after.found_empty n side) × (before.seen.child n side ≡ None))

-- The second is a later moment of the same worker, or the same: it has seen at least as much, and made no fewer steps, and these alone
-- found places empty.
pub record IsLaterMoment (before after : Sight) : Type 0 where
  pub seen : HasSeenAtLeast before.seen after.seen
  pub steps : before.steps ≤ after.steps
  pub empty : (n : ℕ) (side : Bool) → KeepsOrFindsEmpty before after n side

-- ---- seen by two
-- of two parents with costs the one of lesser cost, the first if they are equal
abbrev pub cheaper_of : Option (ℕ × ℕ) → Option (ℕ × ℕ) → Option (ℕ × ℕ)
cheaper_of None other = other
cheaper_of (Some pair) None = Some pair
cheaper_of (Some pair) (Some also) = if nat_lt also.1 pair.1 then Some also else Some pair

-- what two have seen: children, points and records of either, parents at the lesser costs, the greater counters and count
pub record HaveSeenTogether (one other both : SeenTree) : Type 0 where
  pub children : (n : ℕ) (side : Bool) → both.child n side ≡ option_or (one.child n side) (other.child n side)
  pub points : (n : ℕ) → point_at both.points n ≡ option_or (point_at one.points n) (point_at other.points n)
  pub pairs : (n : ℕ) → both.parent_and_cost n ≡ cheaper_of (one.parent_and_cost n) (other.parent_and_cost n)
  pub records : (k : ℕ) → both.record_of k ≡ option_or (one.record_of k) (other.record_of k)
  pub counters : (strip : ℕ) → both.counter strip ≡ max (one.counter strip) (other.counter strip)
  pub count : both.count ≡ max one.count other.count

-- A worker takes over what another has seen. The steps, and the places that they found empty, stay its own.
pub record TakesOver (before : Sight) (other : SeenTree) (after : Sight) : Type 0 where
  pub seen : HaveSeenTogether before.seen other after.seen
  pub steps : after.steps ≡ before.steps
  pub found_empty : (n : ℕ) (side : Bool) → after.found_empty n side ≡ before.found_empty n side

-- two that saw a node at one cost saw it below one parent
abbrev pub AgreeOnParents : SeenTree → SeenTree → Type 0
AgreeOnParents one other =
    (n : ℕ) (pair also : ℕ × ℕ) → one.parent_and_cost n ≡ Some pair → other.parent_and_cost n ≡ Some also → pair.1 ≡ also.1 → pair ≡ also

-- ---- swept
-- The way of q over what is seen comes to a place that a step after so many found empty, whether or not it was filled since.
pub record EndsSince (sight : Sight) (steps : ℕ) (q : Point) : Type 0 where
  pub depth : ℕ
  pub node : ℕ
  pub point : Point
  pub on_way : IsOnWay sight.seen.child sight.seen.points q depth node
  pub stands : StandsAt sight.seen.points node point
  pub other : point ≢ q
  pub empty : steps < sight.found_empty node (goes_right depth point q)

-- A call that began after so many steps has swept q: a node is seen at q, or the way of q so ends. It has swept a set of points if it has swept each.
abbrev pub IsSwept : Sight → ℕ → Point → Type 0
IsSwept sight steps q = IsFree sight.seen.points q → EndsSince sight steps q
