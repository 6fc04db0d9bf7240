pub mod Contents
pub mod Filled
pub mod Ownership
pub mod Places
pub mod Row
