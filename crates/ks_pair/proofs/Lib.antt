pub mod Fewer
pub mod Ready
pub mod Decided
