-- Trees as lists by number, and what is asked of them: the nearest node, near nodes, sums, the best node.
pub mod Nearness
pub mod NodeLists
pub mod TreeStates
pub mod BestNode
