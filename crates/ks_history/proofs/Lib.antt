pub mod Writes
pub mod Histories
pub mod Theorem
pub mod Instances
pub mod Spans
pub mod PartsAndMoves
