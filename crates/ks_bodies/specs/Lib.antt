pub mod Stands
pub mod Shapes
pub mod Links
pub mod Neighbours
