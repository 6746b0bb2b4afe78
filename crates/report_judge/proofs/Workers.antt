-- The nodes and marks of a worker, turn by turn.
pub mod SeenLaws
pub mod SeenTurns
pub mod OwnNodeLaws
pub mod SeenStarts
pub mod FirstCosts
pub mod ClassRadii
pub mod StandingLaws
pub mod OwnMarkLaws
