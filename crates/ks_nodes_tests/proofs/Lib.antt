pub mod FirstEdge
pub mod Whole
