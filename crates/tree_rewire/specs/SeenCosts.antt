-- What a pass has seen of costs, and what calls that look at costs or lower them leave of it.
use Rattle.std.specs.Prelude.{◌≡◌, ℕ, ◌*◌, ◌^◌, ◌<◌, ◌≤◌, List}
use Rattle.tree_rewire.specs.Terms.{BelongsTo, Best, ChangesOnly, ConfigurationSpace, GoesOn, HasLooked, IsLeastParent, IsOpenTo, IsPresent, KeepsOrPosts}
use Rattle.tree_rewire.specs.Terms.{Parent, PassState, Point, PointOf, SharedState, TreeOf, View, Word, cost_in, cost_through_by, last_look, parent_in}
use Rattle.tree_rewire.specs.Terms.{point_of, sees, squared_distance, tree_seen, with_view}

-- ---- costs
-- node n is seen with its parent and its cost
abbrev pub SeesPair : View → ℕ → Type 0
SeesPair view n = 2 ^ 63 ≤ sees view (TreeOf n)

-- the parent that was seen of it last
abbrev pub parent_seen : View → ℕ → ℕ
parent_seen view n = parent_in (sees view (TreeOf n))

-- the cost that was seen of node n last
abbrev pub cost_seen : View → ℕ → ℕ
cost_seen view n = cost_in (sees view (TreeOf n))

-- its parent and its cost were looked at after the first so many steps of the pass
abbrev pub IsLoadedSince : ℕ → View → ℕ → Type 0
IsLoadedSince steps view n = steps < last_look view (TreeOf n)

-- what a node at p costs through node n, by what was seen of that
abbrev pub seen_cost_through : View → Point → ℕ → ℕ
seen_cost_through view p n = cost_through_by (cost_seen view) (tree_seen view).points p n

-- of these nodes with a clear edge to p this is the best parent of a node there, by the costs that were seen last
abbrev pub IsBestParentSeen : ConfigurationSpace → View → Point → List ℕ → Parent → Type 0
IsBestParentSeen space view p among parent = IsLeastParent (seen_cost_through view p) (IsOpenTo space (tree_seen view).points p among) parent

-- node n is seen with its point, which is at most a step from p
pub record IsInReach (view : View) (p : Point) (n : ℕ) : Type 0 where
  pub present : IsPresent (tree_seen view).points n
  pub short : squared_distance (point_of (tree_seen view).points n) p ≤ view.run.step * view.run.step

-- ---- steps
-- the name is of no word
abbrev pub NamesNothing : Word → Type 0
NamesNothing name = ⊥

-- the name is of a node's parent and cost
abbrev pub NamesTree : Word → Type 0
NamesTree (TreeOf n) = Unit {0}
NamesTree _ = ⊥

-- the name is of a node's point
abbrev pub NamesPoint : Word → Type 0
NamesPoint (PointOf n) = Unit {0}
NamesPoint _ = ⊥

-- the name is of a node's parent and cost, or of the best word: a node that is lowered may be posted
abbrev pub NamesLowered : Word → Type 0
NamesLowered (TreeOf n) = Unit {0}
NamesLowered Best = Unit {0}
NamesLowered _ = ⊥

-- it is of one of these, or of a node's point
abbrev pub NamesLoweredOrPoint : Word → Type 0
NamesLoweredOrPoint (PointOf n) = Unit {0}
NamesLoweredOrPoint (TreeOf n) = Unit {0}
NamesLoweredOrPoint Best = Unit {0}
NamesLoweredOrPoint _ = ⊥

-- What was seen stays seen, and of all words none is seen anew but these; what is seen otherwise was looked at by a step since. Share and limit stay, and
-- so does the hand, but that it may have noted a post of its node, if the best word is one of these.
pub record SeesAnew (which : Word → Type 0) (before after : View) : Type 0 where
  pub goes_on : GoesOn before after
  pub others : ChangesOnly which (sees before) (sees after)
  pub looked : HasLooked before after
  pub kept : KeepsOrPosts before after
  pub held : ¬ which Best → after.hand ≡ before.hand

-- A pass of this tree does so, and nothing but its view changes.
pub record PassSees (which : Word → Type 0) (shared : SharedState) (before after : PassState) : Type 0 where
  pub belongs : BelongsTo after shared
  pub sees_anew : SeesAnew which before.view after.view
  pub view_alone : after ≡ with_view before after.view

-- A pass of this tree sees parents, costs and points anew. Its near list, its second list and that of its search stay.
pub record PassLowers (shared : SharedState) (before after : PassState) : Type 0 where
  pub belongs : BelongsTo after shared
  pub sees_anew : SeesAnew NamesLoweredOrPoint before.view after.view
  pub near : after.lists.near ≡ before.lists.near
  pub around : after.lists.around ≡ before.lists.around
  pub search : after.lists.search ≡ before.lists.search
