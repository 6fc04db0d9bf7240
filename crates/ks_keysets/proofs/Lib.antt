pub mod Walks
pub mod Ways
pub mod Spans
pub mod Opening
pub mod Aparts
mod Cells
