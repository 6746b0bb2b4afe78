-- Worked examples of the definitions, each a statement that the contract of a function in plan_model_tests/src/vectors.rt names.
pub mod Marks
pub mod Spaces
pub mod Geometry
pub mod Reports
pub mod Texts
pub mod SecondVersion
pub mod Limits
pub mod SeenTrees
pub mod Runs
