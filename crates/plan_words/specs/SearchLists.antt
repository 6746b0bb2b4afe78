-- What a search keeps in a pass: the nodes that wait, how many were taken off, and those that it found among these.
use Rattle.std.specs.Prelude.{◌≡◌, ℕ, ◌+◌, ◌*◌, ◌≤◌, ◌==◌, false, not, if◌then◌else◌, Bool, List, [], drop, length, map, nat_lt, take, suc, ◌<◌, ◌^◌, true}
use Rattle.std.specs.Prelude.{◌∷◌, SomeIndex, get_or, slice_index}
use Rattle.plan_words.specs.Terms.{Cell, Found, Point, Spot, TreeOf, View, cost_in, parent_in, point_in, root_ceiling, sees}

-- where the node of a spot stands
abbrev pub point_of_spot : Spot → Point
point_of_spot spot = point_in spot.word

-- The spots that wait, in the order in which they came, how many were taken off before them, and the nodes found.
pub record SearchLists : Type 0 where
  pub spots : List Spot
  pub taken : ℕ
  pub found : List Found

-- one that has not begun
abbrev pub no_search : SearchLists
no_search = record { spots = []; taken = 0; found = [] }

-- What contracts see of their store: the lists, and for how many spots, waiting and taken, it has room.
pub record SearchState : Type 0 where
  pub lists : SearchLists
  pub room : ℕ

-- ---- the cells
abbrev pub cell_of : Spot → Cell
cell_of spot = record { node = spot.node; tag = if spot.by_rows then 1 else 0; word = spot.word }

abbrev pub spot_in : Cell → Spot
spot_in cell = record { node = cell.node; by_rows = not (cell.tag == 0); word = cell.word }

abbrev pub noted_cell : ℕ → ℕ → Cell
noted_cell node distance = record { node = node; tag = 0; word = distance }

abbrev pub found_in : Cell → Found
found_in cell = record { node = cell.node; edge = cell.tag; distance = cell.word }

-- The first cells are those of found nodes, and those past as many as were taken are those of spots that wait.
abbrev pub lists_in : List Cell → ℕ → ℕ → SearchLists
lists_in cells taken count = record { spots = map spot_in (drop taken cells); taken = taken; found = map found_in (take count cells) }

-- No more are found than were taken.
pub record IsSearchStore (cells : List Cell) (taken count : ℕ) : Type 0 where
  pub few : count ≤ taken
  pub within : taken ≤ length cells

-- ---- what is found
-- the node, at this squared distance, as it is noted
abbrev pub noted : ℕ → ℕ → Found
noted node distance = record { node = node; edge = 0; distance = distance }

-- the spot that its cell would be of
abbrev pub noted_spot : ℕ → ℕ → Spot
noted_spot node distance = record { node = node; by_rows = false; word = distance }

-- a spot that such a cell may be of
abbrev pub IsNoted : Spot → Type 0
IsNoted spot = spot.by_rows ≡ false

-- the node that is noted in its cell
abbrev pub found_of_spot : Spot → Found
found_of_spot spot = noted spot.node spot.word

abbrev pub numbers_of : List Found → List ℕ
numbers_of found = map (λ (f : Found). f.node) found

-- the nodes with the costs of edges as long as their distances
abbrev pub weighed : List Found → List Found
weighed found = map (λ (f : Found). record f { edge = root_ceiling (65536 * f.distance) }) found

-- by the words seen, a found node costs more than this and its edge
abbrev pub is_dearer : (ℕ → ℕ) → ℕ → Found → Bool
is_dearer words cost found = nat_lt (cost + found.edge) (cost_in (words found.node))

-- ---- A list of nodes that wait to be looked at, on which each stands once.
-- What contracts see of such a list: its nodes, and below which number they are.
pub record WaitingState : Type 0 where
  pub nodes : List ℕ
  pub size : ℕ

-- the node is on the list
abbrev pub IsOn : List ℕ → ℕ → Type 0
IsOn nodes n = SomeIndex nodes (λ i. slice_index nodes i ≡ n)

-- the node is marked
abbrev pub is_marked : List Bool → ℕ → Bool
is_marked marked n = get_or marked n false

-- how many are marked
abbrev pub count_marked : List Bool → ℕ
count_marked [] = 0
count_marked (true ∷ marked) = suc (count_marked marked)
count_marked (false ∷ marked) = count_marked marked

-- exactly the nodes on the list are marked, and each stands there once
pub record AreMarked (nodes : List ℕ) (marked : List Bool) : Type 0 where
  pub each : (i : ℕ) → i < length nodes → is_marked marked (slice_index nodes i) ≡ true
  pub only : (n : ℕ) → is_marked marked n ≡ true → IsOn nodes n
  pub once : (i j : ℕ) → i < length nodes → j < length nodes → slice_index nodes i ≡ slice_index nodes j → i ≡ j
  pub count : length nodes ≡ count_marked marked

-- nobody is marked
abbrev pub NoneMarked : List Bool → Type 0
NoneMarked marked = (n : ℕ) → is_marked marked n ≡ false

-- The list, its marks and the room that it has. As many nodes as there are marks fit on it.
pub record IsWaitingList (nodes : List ℕ) (marked : List Bool) (capacity : ℕ) : Type 0 where
  pub room : length marked ≤ capacity
  pub marks : AreMarked nodes marked

-- by the tree word that the view saw last, the one is the parent of the other; node 0 has none
pub record HasSeenParent (view : View) (m n : ℕ) : Type 0 where
  pub child : 0 < n
  pub written : 2 ^ 63 ≤ sees view (TreeOf n)
  pub parent : parent_in (sees view (TreeOf n)) ≡ m
