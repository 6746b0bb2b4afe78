-- What one view sees of the tree, after steps of its own and of others.
pub mod SeenViews
pub mod LinkedViews
pub mod LawfulSights
pub mod SeenTreesOfViews
pub mod LaterViews
