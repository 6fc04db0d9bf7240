pub mod Crosses
pub mod Deeds
pub mod Filling
pub mod Rows
pub mod Runs
pub mod Sharing
