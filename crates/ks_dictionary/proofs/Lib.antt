pub mod Finds
pub mod Keyed
pub mod Numbers
pub mod Rows
pub mod Stored
