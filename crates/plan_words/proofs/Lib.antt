pub mod WrittenPoints
pub mod WholeViews
pub mod GoingOn
pub mod Allowing
pub mod Owning
pub mod LookedNodes
pub mod FittingRecords
pub mod Tying
pub mod HandSteps
pub mod ToldHands
pub mod KeptPairs
pub mod Joining
pub mod LoweredNodes
pub mod Scanning
pub mod Claiming
pub mod WholeClaims
pub mod CountedTurns
pub mod Dealing
pub mod NearestParents
pub mod WholeTrees
pub mod Ending
pub mod MarkedNodes
pub mod SeenChildren
pub mod SeenLists
mod FirstPairs
mod SeatSteps
pub mod Posting
pub mod PostedGoals
mod ChildCosts
mod LoweredChains
pub mod KeptFound
pub mod RisingNumbers
pub mod PlainScenes
pub mod Common
mod Words
