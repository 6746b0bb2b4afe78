pub mod GoalNodes
pub mod HeldOrders
pub mod SettlingSteps
pub mod GrownPaths
pub mod NumberedLines
pub mod TightNodes
pub mod CountedMarks
pub mod WaysDown
pub mod MarkedRuns
mod Words
