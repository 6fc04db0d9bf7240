pub mod Branches
pub mod Guides
pub mod Leaves
pub mod Spots
