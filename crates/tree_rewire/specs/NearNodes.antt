-- The nodes near a new one, on whichever list of a pass they are, by number.
use Rattle.std.specs.Prelude.{◌≡◌, ℕ, Contains, List, eqb, ◌⊎◌, ◌<◌, ◌≤◌, All}
use Rattle.tree_rewire.specs.Terms.{Clear, ConfigurationSpace, Found, IsDistinct, IsPresent, Listed, Lists, NearNodes, PassState, Point, Searched, View}
use Rattle.tree_rewire.specs.Terms.{cost_of, distance_to, numbers_of, point_of, tree_seen, tree_word, weighed}
use Rattle.tree_rewire.specs.SeenCosts.{SeesPair, seen_cost_through}
use Rattle.tree_rewire.specs.Spreads.{SeesKnot}

-- ---- Nodes that a search has found, as their records have them.
-- the pass, with another view and with other records of what its search found
abbrev pub with_found : PassState → View → List Found → PassState
with_found pass view found = record pass { view = view; lists = record pass.lists { search = record pass.lists.search { found = found } } }

-- The node is seen with its point, and its record has the square of its distance from p.
pub record IsMeasured (view : View) (p : Point) (found : Found) : Type 0 where
  pub present : IsPresent (tree_seen view).points found.node
  pub distance : found.distance ≡ distance_to p (tree_seen view).points found.node

-- The node is seen with its point and its cost, and its record has the cost of its edge to p.
pub record IsWeighed (view : View) (p : Point) (found : Found) : Type 0 where
  pub present : IsPresent (tree_seen view).points found.node
  pub pair : SeesPair view found.node
  pub edge : found.edge ≡ cost_of (point_of (tree_seen view).points found.node) p

-- The records are of exactly these nodes, one of each.
pub record AreOf (found : List Found) (near : List ℕ) : Type 0 where
  pub once : IsDistinct eqb (numbers_of found)
  pub all : (n : ℕ) → Contains near n → Contains (numbers_of found) n
  pub only : (n : ℕ) → Contains (numbers_of found) n → Contains near n

-- ---- near nodes
-- the nodes on the list
abbrev pub nodes_on : NearNodes → Lists → List ℕ
nodes_on Listed lists = lists.near
nodes_on Searched lists = numbers_of lists.search.found

-- the records of the nodes that a search found have their distances from p
abbrev pub AreMeasured : NearNodes → View → Point → Lists → Type 0
AreMeasured Listed view p lists = Unit {0}
AreMeasured Searched view p lists = All (IsMeasured view p) lists.search.found

-- the lists, when the records of a search have the costs of their edges
abbrev pub weighed_on : NearNodes → Lists → Lists
weighed_on Listed lists = lists
weighed_on Searched lists = record lists { search = record lists.search { found = weighed lists.search.found } }

-- Each is seen with its point, its parent and its cost, and a record of the search has the cost of its edge to p.
abbrev pub AreKnown : NearNodes → View → Point → Lists → Type 0
AreKnown Listed view p lists = All (SeesKnot view) lists.near
AreKnown Searched view p lists = All (IsWeighed view p) lists.search.found

-- the tree word of a new node's pair: node n as its parent, and the cost through that
abbrev pub word_through : View → Point → ℕ → ℕ
word_through view p n = tree_word n (seen_cost_through view p n)

-- The least of these words above a lower one, or the last, if none of them is less than that.
pub record IsNextWord (words : List ℕ) (low last next : ℕ) : Type 0 where
  pub most : next ≤ last
  pub above : low < next
  pub one_of : (next ≡ last) ⊎ Contains words next
  pub least : All (λ word. low < word → next ≤ word) words

-- the word, if it lies between the two, else the next one
abbrev pub IsNextOf : ℕ → ℕ → ℕ → ℕ → Type 0
IsNextOf low word next result = ((low < word) × (word < next) × (result ≡ word)) ⊎ ((low < word → next ≤ word) × (result ≡ next))

-- ---- edges
-- the edge of node n to p is clear
abbrev pub IsClearTo : ConfigurationSpace → View → Point → ℕ → Type 0
IsClearTo space view p n = Clear space (point_of (tree_seen view).points n) p

-- the word is that of a near node with a clear edge
pub record IsOpenWord (space : ConfigurationSpace) (view : View) (p : Point) (near : List ℕ) (word : ℕ) : Type 0 where
  pub node : ℕ
  pub on : Contains near node
  pub is : word ≡ word_through view p node
  pub clear : IsClearTo space view p node

-- if the word of the node is less, its edge is not clear
abbrev pub IsBlockedBelow : ConfigurationSpace → View → Point → ℕ → ℕ → Type 0
IsBlockedBelow space view p word n = word_through view p n < word → ¬ IsClearTo space view p n
