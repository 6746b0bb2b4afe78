-- Passes of the tests of tree_rewire.
pub mod HeldMarks
