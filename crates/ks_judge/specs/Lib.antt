pub mod Judgment
pub mod Flat
pub mod Places
pub mod Slots
pub mod Verdict
pub mod Keys
pub mod Table
pub mod Laws
