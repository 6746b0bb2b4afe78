-- What is seen of a subtree after a cost was lowered: costs fall along parents, as far as the subtree was seen.
use Rattle.std.specs.Prelude.{◌≡◌, ◌≢◌, ◌⊎◌, ℕ, ◌+◌, ◌<◌, ◌≤◌, length, suc, true}
use Rattle.tree_rewire.specs.Terms.{ChangesOnly, Clear, ConfigurationSpace, FirstOf, GoesOn, Hand, HasQueued, IsOn, IsPresent, Nodes, PassState, SeesPoint}
use Rattle.tree_rewire.specs.Terms.{TreeOf, View, has_count, pair_in_hand, parent_of, point_at, point_of, points_of, sees, sum_of, tree_seen}
use Rattle.tree_rewire.specs.SeenCosts.{NamesTree, SeesPair, cost_seen, seen_cost_through, parent_seen}

-- Node n and its parent are seen with their points, and it costs at most what it costs through its parent, as all this was seen last.
pub record IsWithinParent (view : View) (n : ℕ) : Type 0 where
  pub stands : IsPresent (tree_seen view).points n
  pub parent_stands : IsPresent (tree_seen view).points (parent_seen view n)
  pub most : cost_seen view n ≤ seen_cost_through view (point_of (tree_seen view).points n) (parent_seen view n)

-- node n is within its parent, if a cost of that parent was seen
abbrev pub IsWithinSeenParent : View → ℕ → Type 0
IsWithinSeenParent view n = SeesPair view (parent_seen view n) → IsWithinParent view n

-- this node, or one whose seen cost fell
abbrev pub IsSource : ℕ → View → View → ℕ → Type 0
IsSource node before after n = (n ≡ node) ⊎ (cost_seen after n < cost_seen before n)

-- The children of the sources are within their parents, of all nodes that were seen with their parents before. The start is its own.
abbrev pub HasSpread : ℕ → View → View → Type 0
HasSpread node before after = (c : ℕ) → SeesPair before c → IsSource node before after (parent_seen after c) → IsWithinParent after c

-- each node that is seen with another parent or cost is settled
abbrev pub HasSettledChanges : View → View → Type 0
HasSettledChanges before after = (n : ℕ) → sees after (TreeOf n) ≢ sees before (TreeOf n) → IsWithinSeenParent after n

-- ---- exact costs, and steps that change one
-- node n is seen with its point, its parent and its cost
pub record SeesKnot (view : View) (n : ℕ) : Type 0 where
  pub stands : IsPresent (tree_seen view).points n
  pub written : SeesPair view n

-- it costs exactly what its parent costs and the edge, as all this was seen last
abbrev pub IsTight : View → ℕ → Type 0
IsTight view n = cost_seen view n ≡ seen_cost_through view (point_of (tree_seen view).points n) (parent_seen view n)

-- each node seen with its point and its cost, but the start, costs exactly its parent's cost and the edge
abbrev pub AllTight : View → Type 0
AllTight view = (n : ℕ) → 0 < n → SeesKnot view n → IsTight view n

-- so does each but the start and the children of this node
abbrev pub AllTightBut : ℕ → View → Type 0
AllTightBut node view = (n : ℕ) → 0 < n → SeesKnot view n → parent_seen view n ≢ node → IsTight view n

-- No node is seen with another parent or at a higher cost, or with them for the first time. All other words are seen as before.
pub record KeepsParents (before after : View) : Type 0 where
  pub parents : (n : ℕ) → parent_seen after n ≡ parent_seen before n
  pub costs : (n : ℕ) → cost_seen after n ≤ cost_seen before n
  pub written : (n : ℕ) → SeesPair after n → SeesPair before n
  pub others : ChangesOnly NamesTree (sees before) (sees after)

-- no other node is seen with another parent or cost
abbrev pub OnlyAt : ℕ → View → View → Type 0
OnlyAt n before after = (m : ℕ) → m ≢ n → sees after (TreeOf m) ≡ sees before (TreeOf m)

-- ---- a spread
-- Node c is a child that is seen with its parent and its cost. It is settled, or its parent waits.
pub record IsLooked (now : View) (waits : ℕ → Type 0) (c : ℕ) : Type 0 where
  pub child : 0 < c
  pub written : SeesPair now c
  pub rest : IsWithinSeenParent now c ⊎ waits (parent_seen now c)

-- Each child of a source costs no more than through its parent, or that waits. So does each node that is seen with another parent or cost, if
-- its parent is seen with a cost. All that wait are seen with their costs.
pub record IsSpreading (node : ℕ) (before now : View) (waits : ℕ → Type 0) : Type 0 where
  pub goes_on : GoesOn before now
  pub given : SeesPair before node
  pub loose : (c : ℕ) → 0 < c → SeesPair before c → IsSource node before now (parent_seen now c) → IsWithinParent now c ⊎ waits (parent_seen now c)
  pub changed : (c : ℕ) → sees now (TreeOf c) ≢ sees before (TreeOf c) → IsLooked now waits c
  pub pairs : (n : ℕ) → waits n → SeesPair now n

-- whatever spread goes on while this node and those on the list wait goes on then, while those on the list wait
abbrev pub SpreadsFrom : ℕ → PassState → PassState → Type 0
SpreadsFrom n before after = (node : ℕ) (first : View) → IsSpreading node first before.view (λ p. IsOn before.lists.waiting p ⊎ (p ≡ n))
    → IsSpreading node first after.view (IsOn after.lists.waiting)

-- no node is seen to cost more
abbrev pub NoneRises : View → View → Type 0
NoneRises before after = (n : ℕ) → cost_seen after n ≤ cost_seen before n

-- No more nodes wait, or a cost fell, and no more wait than there may be nodes.
abbrev pub QueuesFallen : PassState → PassState → Type 0
QueuesFallen before after =
    (length after.lists.waiting ≤ length before.lists.waiting) ⊎ HasQueued before.view after.view after.lists.waiting (length before.view.run.marks + 1)

-- ---- When near nodes may be rewired, and what is seen then of the nodes whose costs fell and of those below them.
-- The node of mark k is in this hand, linked and counted. It is seen at its point, with its first cost, and with its parent and its cost.
pub record HasPlaced (view : View) (k : ℕ) (hand : Hand) : Type 0 where
  pub mark : hand.mark ≡ k
  pub counted : has_count hand.stage ≡ true
  pub stands : SeesPoint view (suc k) hand.point
  pub first : sees view (FirstOf (suc k)) ≡ pair_in_hand hand
  pub pair : SeesPair view (suc k)

-- node n is seen to cost less
abbrev pub CostsLess : View → View → ℕ → Type 0
CostsLess before after n = cost_seen after n < cost_seen before n

-- Node n or its parent is seen to cost less, and both were seen with their costs before.
pub record IsInFall (before after : View) (n : ℕ) : Type 0 where
  pub pair : SeesPair before n
  pub parent_pair : SeesPair before (parent_seen after n)
  pub fell : CostsLess before after n ⊎ CostsLess before after (parent_seen after n)

-- Node n was dearer than it is through node m, over a clear edge.
pub record IsShortcut (space : ConfigurationSpace) (before after : View) (m n : ℕ) : Type 0 where
  pub clear : Clear space (point_of (tree_seen before).points m) (point_of (tree_seen before).points n)
  pub dearer : seen_cost_through after (point_of (tree_seen before).points n) m < cost_seen before n

-- Node n is a near one to which this node is a shortcut, and it hangs elsewhere: another pass has lowered it.
pub record HangsElsewhere (space : ConfigurationSpace) (near : ℕ → Type 0) (node : ℕ) (before after : View) (n : ℕ) : Type 0 where
  pub listed : near n
  pub shortcut : IsShortcut space before after node n
  pub elsewhere : parent_seen after n ≢ node

-- Each node in a fall is within its parent, unless it is a near node to which this node is a shortcut and which hangs elsewhere.
abbrev pub HasSpreadFalls : ConfigurationSpace → (ℕ → Type 0) → ℕ → View → View → Type 0
HasSpreadFalls space near node before after =
    (n : ℕ) → IsInFall before after n → IsWithinParent after n ⊎ HangsElsewhere space near node before after n

-- ---- What a pass with the share of all workers sees: a tree of the textbook.
-- The nodes that the view sees are those of this tree, at the same points, with the same parents, and each costs its sum.
pub record Mirrors (view : View) (tree : Nodes) : Type 0 where
  pub points : (n : ℕ) → point_at (tree_seen view).points n ≡ point_at (points_of tree) n
  pub written : (n : ℕ) → IsPresent (points_of tree) n → SeesPair view n
  pub parents : (n : ℕ) → IsPresent (points_of tree) n → parent_seen view n ≡ parent_of tree n
  pub costs : (n : ℕ) → IsPresent (points_of tree) n → cost_seen view n ≡ sum_of tree n
