pub mod Keeping
pub mod Deepening
pub mod Narrowing
pub mod Trying
pub mod Cutting
pub mod Clearing
pub mod Going
