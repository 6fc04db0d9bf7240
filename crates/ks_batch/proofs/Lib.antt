pub mod Instances
pub mod Runs
pub mod Whys
