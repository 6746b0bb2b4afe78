-- The children of each number, in chains that are linked both ways.
use Rattle.std.specs.Prelude.{◌≡◌, ◌≢◌, ℕ, zero, suc, ◌+◌, ◌<◌, ◌≤◌, ◌==◌, List, [], ◌∷◌, length, slice_index, count_by, map}
use Rattle.grown_runs.specs.Terms.{ChildIndex, vec_capacity}

-- Each number is in one chain, or in none, which is chain 0; the chain of the children of a number is 1 more than that. A chain begins with its
-- front, and next and previous are the neighbours there; 0 is no child. The rank falls along a chain, and no number of the chain lies between two
-- neighbours.
pub record AreChained (nodes : ℕ) (chain front next previous rank : ℕ → ℕ) : Type 0 where
  pub none : chain 0 ≡ 0
  pub bottom : rank 0 ≡ 0
  pub high : (n : ℕ) → chain n ≤ nodes
  pub top : (n : ℕ) → 0 < chain n → (0 < front (chain n)) × (rank n ≤ rank (front (chain n)))
  pub head : (l : ℕ) → 0 < front l → (0 < l) × (chain (front l) ≡ l) × (previous (front l) ≡ 0)
  pub falls : (n : ℕ) → 0 < chain n → rank (next n) < rank n
  pub after : (n : ℕ) → 0 < chain n → 0 < next n → (chain (next n) ≡ chain n) × (previous (next n) ≡ n)
  pub down : (m n : ℕ) → 0 < chain n → chain m ≡ chain n → rank m < rank n → (0 < next n) × (rank m ≤ rank (next n))
  pub back : (n : ℕ) → 0 < chain n → 0 < previous n → (next (previous n) ≡ n) × (chain (previous n) ≡ chain n)
  pub first : (n : ℕ) → 0 < chain n → previous n ≡ 0 → front (chain n) ≡ n
  pub apart : (m n : ℕ) → 0 < chain m → chain m ≡ chain n → rank m ≡ rank n → m ≡ n

-- the front of a chain, by the first children of all numbers
abbrev pub front_in : List ℕ → ℕ → ℕ
front_in first zero = 0
front_in first (suc parent) = slice_index first parent

-- The three lists are the index of these chains. That there is a rank makes each walk along a chain end, with every number of it met.
pub record IsIndex (nodes : ℕ) (chain : ℕ → ℕ) (first next previous : List ℕ) : Type 0 where
  pub firsts : length first ≡ nodes
  pub nexts : length next ≡ nodes
  pub previouses : length previous ≡ nodes
  pub some : 0 < nodes
  pub within : (n : ℕ) → 0 < chain n → n < nodes
  pub rank : ℕ → ℕ
  pub chained : AreChained nodes chain (front_in first) (slice_index next) (slice_index previous) rank

-- the first children of all numbers, and the neighbours of each
abbrev pub firsts_of : ChildIndex → List ℕ
firsts_of index = map (λ links. links.first) index.links.items

abbrev pub nexts_of : ChildIndex → List ℕ
nexts_of index = map (λ links. links.next) index.links.items

abbrev pub previouses_of : ChildIndex → List ℕ
previouses_of index = map (λ links. links.previous) index.links.items

-- the index has so many numbers, in these chains
abbrev pub IndexesChains : ℕ → (ℕ → ℕ) → ChildIndex → Type 0
IndexesChains nodes chain index = IsIndex nodes chain (firsts_of index) (nexts_of index) (previouses_of index)

-- how many numbers an index has
abbrev pub size_of : ChildIndex → ℕ
size_of index = length (firsts_of index)

-- so many numbers fit the index in the room that it has
abbrev pub FitsNumbers : ChildIndex → ℕ → Type 0
FitsNumbers index numbers = numbers ≤ vec_capacity index.links

-- one number more fits the index
pub record FitsOneMore (index : ChildIndex) : Type 0 where
  pub nodes : ℕ
  pub chain : ℕ → ℕ
  pub chains : IndexesChains nodes chain index
  pub fits : FitsNumbers index (nodes + 1)

-- the room is as great as before
abbrev pub KeepsRoom : ChildIndex → ChildIndex → Type 0
KeepsRoom before after = (numbers : ℕ) → FitsNumbers before numbers → FitsNumbers after numbers

-- the number is in this chain of some index
pub record HasInChain (index : ChildIndex) (node l : ℕ) : Type 0 where
  pub nodes : ℕ
  pub chain : ℕ → ℕ
  pub chains : IndexesChains nodes chain index
  pub here : chain node ≡ l
  pub low : node < nodes

-- no other number changes its chain
abbrev pub OnlyMoves : ℕ → (ℕ → ℕ) → (ℕ → ℕ) → Type 0
OnlyMoves node before after = (n : ℕ) → n ≢ node → after n ≡ before n

-- whatever was indexed before is indexed after the number moved from one chain to another
abbrev pub MovesNode : ℕ → ℕ → ℕ → ChildIndex → ChildIndex → Type 0
MovesNode node from to before after = (nodes : ℕ) (chain now : ℕ → ℕ) → IndexesChains nodes chain before → chain node ≡ from → now node ≡ to
    → OnlyMoves node chain now → IndexesChains nodes now after

-- whatever was indexed before still is
abbrev pub HasSameChains : ChildIndex → ChildIndex → Type 0
HasSameChains before after = (nodes : ℕ) (chain : ℕ → ℕ) → IndexesChains nodes chain before → IndexesChains nodes chain after

-- and with one number more, which is in no chain
abbrev pub HasOneMore : ChildIndex → ChildIndex → Type 0
HasOneMore before after = (nodes : ℕ) (chain : ℕ → ℕ) → IndexesChains nodes chain before → IndexesChains (nodes + 1) chain after

-- ---- walks along a chain
-- the numbers on a walk from n by the list of the next ones, as many as are allowed
abbrev pub walk_from : ℕ → List ℕ → ℕ → List ℕ
walk_from most next zero = []
walk_from zero next (suc n) = []
walk_from (suc most) next (suc n) = suc n ∷ walk_from most next (slice_index next (suc n))

-- a number and its siblings after it; none for 0
abbrev pub siblings_from : ChildIndex → ℕ → List ℕ
siblings_from index n = walk_from (length (nexts_of index)) (nexts_of index) n

-- how often a number stands in a list
abbrev pub times : List ℕ → ℕ → ℕ
times members n = count_by (λ k. k == n) members

-- The list has exactly the numbers of a chain, each once.
pub record AreMembers (chain : ℕ → ℕ) (l : ℕ) (members : List ℕ) : Type 0 where
  pub each : (n : ℕ) → chain n ≡ l → times members n ≡ 1
  pub only : (n : ℕ) → chain n ≢ l → times members n ≡ 0
