pub mod Over
pub mod Leaves
