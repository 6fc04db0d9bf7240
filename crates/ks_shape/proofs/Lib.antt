pub mod Standing
pub mod Links
pub mod Concludes
pub mod Leaving
pub mod Claiming
pub mod Places
pub mod Ways
