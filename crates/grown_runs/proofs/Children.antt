-- The index of children.
pub mod MovedChildren
pub mod AddedNumbers
pub mod SiblingWalks
