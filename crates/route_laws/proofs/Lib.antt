pub mod ChainCosts
pub mod TextbookRecords
pub mod FollowedLinks
pub mod FollowedRoutes
pub mod FollowedPaths
pub mod FollowedDiscs
pub mod FollowedBodies
pub mod FallingRadii
pub mod PartsOfRuns
pub mod NearNodePairs
pub mod RouteNodes
pub mod RouteCosts
pub mod CheapestPaths
pub mod WorkersRoutes
pub mod Common
mod Words
