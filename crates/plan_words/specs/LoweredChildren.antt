-- What steps by the seat of a pass leave, and what a node costs through another, as both were seen last.
use Rattle.std.specs.Prelude.{◌≡◌, ℕ, zero, suc, ◌+◌, ◌-◌, ◌≤◌, ◌^◌, List, ◌++◌, if◌then◌else◌, length, nat_lt, replicate, slice_index, ◌≢◌, ◌<◌, [], Option}
use Rattle.std.specs.Prelude.{None, Some}
use Rattle.plan_words.specs.Terms.{Above, Aim, ChildIndex, FitsNumbers, FoundChild, HasLooked, IndexesChains, IsBounded, IsLawfulView, Me, Point, PointOf}
use Rattle.plan_words.specs.Terms.{SeesGoal, SeesPoint, TableId, TreeOf, View, Word, best_word, cost_in, cost_of, parent_in, sees}
use Rattle.plan_words.specs.Nodes.{KeepsOrPosts}
use Rattle.plan_words.specs.States.{GoesOn, SharedState, run_in}
use Rattle.plan_words.specs.SearchLists.{HasSeenParent}

-- ---- The tree words that a pass saw, and which chain of an index of children a node is in by them.
-- 1 more than the number of its parent, or 0 if it is nobody's child; node 0 is never one
abbrev pub chain_of : ℕ → ℕ → ℕ
chain_of zero word = 0
chain_of (suc n) word = if nat_lt word (2 ^ 63) then 0 else parent_in word + 1

-- the same by the tree words of all nodes
abbrev pub sibling_chain_in : List ℕ → ℕ → ℕ
sibling_chain_in words n = chain_of n (slice_index words n)

-- the words of so many nodes, of which those past the end of a list are not seen
abbrev pub seen_words : ℕ → List ℕ → List ℕ
seen_words nodes words = words ++ replicate (nodes - length words) 0

-- The list has the words of the first of so many nodes, and the index their children. Both have room for the words of all.
pub record AreSeenFirst (nodes : ℕ) (words : List ℕ) (capacity : ℕ) (children : ChildIndex) : Type 0 where
  pub within : length words ≤ nodes
  pub room : nodes ≤ capacity
  pub children_room : FitsNumbers children nodes
  pub index : IndexesChains (length words) (sibling_chain_in (seen_words nodes words)) children

-- they may get as long as so many nodes need
abbrev pub MayReach : ℕ → List ℕ → ℕ → ChildIndex → Type 0
MayReach nodes words capacity children = (all : ℕ) × (nodes ≤ all) × AreSeenFirst all words capacity children

-- The lists are as long as so many nodes need, and stand for the words that the shorter ones stood for.
pub record Reaches (nodes : ℕ) (words : List ℕ) (capacity : ℕ) (children : ChildIndex) (longer : List ℕ) (room : ℕ) (more : ChildIndex) : Type 0 where
  pub long : nodes ≤ length longer
  pub first : (all : ℕ) → nodes ≤ all → AreSeenFirst all words capacity children → AreSeenFirst all longer room more
  pub same : (all : ℕ) → nodes ≤ all → AreSeenFirst all words capacity children → seen_words all longer ≡ seen_words all words

-- ---- lowered children
-- ---- seats
-- the seat is that of a pass of this tree, and what the law says of a view holds of its view
pub record SitsAt (shared : SharedState) (table : TableId) (me : Me Aim View) : Type 0 where
  pub table_is : table ≡ shared.table
  pub run : me.0.run ≡ run_in shared
  pub lawful : IsLawfulView me.0
  pub slots : me.1 ≡ []

-- the name is of no node's point, parent or cost
abbrev pub IsOtherWord : Word → Type 0
IsOtherWord name = (n : ℕ) → (name ≢ TreeOf n) × (name ≢ PointOf n)

-- Steps on points, parents and costs lead from the one view to the other, with posts of goal nodes that were lowered. What is seen otherwise was looked
-- at by one of them. Share and limit stay, and so does the hand, but that it may have noted a post of its node.
pub record LooksOn (before after : View) : Type 0 where
  pub goes_on : GoesOn before after
  pub others : (name : Word) → IsOtherWord name → sees after name ≡ sees before name
  pub looked : HasLooked before after
  pub kept : KeepsOrPosts before after

-- each point is seen as before
abbrev pub SeesSamePoints : View → View → Type 0
SeesSamePoints before after = (n : ℕ) → sees after (PointOf n) ≡ sees before (PointOf n)

-- ---- costs through a node
-- the node is seen at this point, with its parent and at this cost
pub record IsSeenAbove (view : View) (above : Above) : Type 0 where
  pub stands : SeesPoint view above.node above.point
  pub bounded : IsBounded above.point
  pub written : 2 ^ 63 ≤ sees view (TreeOf above.node)
  pub cost : above.cost ≡ cost_in (sees view (TreeOf above.node))

-- Node n costs at most what it costs through node m, by the points and the costs that were seen of both.
pub record CostsAtMostThrough (view : View) (m n : ℕ) : Type 0 where
  pub from : Point
  pub at : Point
  pub above_stands : SeesPoint view m from
  pub stands : SeesPoint view n at
  pub most : cost_in (sees view (TreeOf n)) ≤ cost_in (sees view (TreeOf m)) + cost_of from at

-- A child of node m is lowered: it is a child of it still, costs less than it did, and at most what it costs through node m.
pub record IsLoweredChild (before after : View) (m n : ℕ) : Type 0 where
  pub was : HasSeenParent before m n
  pub is : HasSeenParent after m n
  pub less : cost_in (sees after (TreeOf n)) < cost_in (sees before (TreeOf n))
  pub most : CostsAtMostThrough after m n

-- a child was found with another word, and it is this node
abbrev pub IsFound : Option ℕ → ℕ → Type 0
IsFound None n = ⊥
IsFound (Some child) n = child ≡ n

abbrev pub IsFoundChild : Option FoundChild → ℕ → Type 0
IsFoundChild None n = ⊥
IsFoundChild (Some found) n = found.node ≡ n

-- Each node that is seen with another parent or cost is a child of node m that is lowered, unless it is one of these.
abbrev pub LowersChildren : (ℕ → Type 0) → View → View → ℕ → Type 0
LowersChildren but before after m = (n : ℕ) → ¬ but n → sees after (TreeOf n) ≢ sees before (TreeOf n) → IsLoweredChild before after m n

-- Of each goal node that is seen with another parent or cost, the best word is at most its pair, as it is seen then, unless it is one of these.
abbrev pub PostsChanged : (ℕ → Type 0) → View → View → Type 0
PostsChanged but before after =
    (n : ℕ) → ¬ but n → sees after (TreeOf n) ≢ sees before (TreeOf n) → SeesGoal before n → after.best ≤ best_word (cost_in (sees after (TreeOf n))) n

-- nodes came on the list of those that wait, which then is no longer than this, and the cost of one fell
pub record HasQueued (before after : View) (waiting : List ℕ) (most : ℕ) : Type 0 where
  pub node : ℕ
  pub fell : cost_in (sees after (TreeOf node)) < cost_in (sees before (TreeOf node))
  pub few : length waiting ≤ most
