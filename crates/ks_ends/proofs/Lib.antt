pub mod Counts
pub mod Fit
pub mod Loading
