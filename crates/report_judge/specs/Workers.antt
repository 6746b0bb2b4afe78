-- What a worker sees of its own nodes and marks, and what a mark is judged by.
pub mod JudgedRuns
pub mod OwnNodes
pub mod SeenNodes
