-- Packed points, and packed parents with their costs, are read again; a lower cost has a lower word.
use Rattle.grown_runs.proofs.Words.{◌≡◌, ℕ, ◌<◌, ◌/◌, ◌%◌, ◌^◌, Some, sym, ◌∙◌, arith, Point, IsBounded, IsPointWord, point_word, point_of_word, tree_word}
use Rattle.grown_runs.proofs.Words.{tree_of_word, parent_in, cost_in}
use Rattle.grown_runs.proofs.Table.ReadWords.{if_written-set}

-- the coordinates in a packed point
pub x_in-point_word : (p : Point) → IsBounded p → point_word p % 2 ^ 20 ≡ p.x
x_in-point_word p h = omega (arith, h.right)

pub y_in-point_word : (p : Point) → IsBounded p → point_word p / 2 ^ 20 % 2 ^ 20 ≡ p.y
y_in-point_word p h = omega (arith, h.right, h.top)

-- a packed point is read again
pub point_of_word-packed : (p : Point) → IsBounded p → point_of_word (point_word p) ≡ Some p
point_of_word-packed p h =
    if_written-set (point_word p) (record { x = point_word p % 2 ^ 20; y = point_word p / 2 ^ 20 % 2 ^ 20 }) (omega arith)
    ∙ (λ i. Some (record { x = x_in-point_word p h i; y = y_in-point_word p h i }))

-- and its word is written as it is packed
pub IsPointWord-packed : (p : Point) → IsBounded p → IsPointWord (point_word p)
IsPointWord-packed p bounded = λ t. point_word (record { x = sym (x_in-point_word p bounded) t; y = sym (y_in-point_word p bounded) t })

pub parent_in-tree_word : (parent cost : ℕ) → parent < 2 ^ 18 → parent_in (tree_word parent cost) ≡ parent
parent_in-tree_word parent cost small = omega (arith, small)

pub cost_in-tree_word : (parent cost : ℕ) → parent < 2 ^ 18 → cost < 2 ^ 44 → cost_in (tree_word parent cost) ≡ cost
cost_in-tree_word parent cost small low = omega (arith, small, low)

-- a packed parent and cost are read again
pub tree_of_word-packed : (parent cost : ℕ) → parent < 2 ^ 18 → cost < 2 ^ 44 → tree_of_word (tree_word parent cost) ≡ Some (parent, cost)
tree_of_word-packed parent cost small low =
    if_written-set (tree_word parent cost) (parent_in (tree_word parent cost), cost_in (tree_word parent cost)) (omega arith)
    ∙ (λ i. Some (parent_in-tree_word parent cost small i, cost_in-tree_word parent cost small low i))

-- a lower cost has a lower word
pub tree_word-lower : (parent other cost more : ℕ) → parent < 2 ^ 18 → cost < more → tree_word parent cost < tree_word other more
tree_word-lower parent other cost more small lower = omega (arith, small, lower)
