pub mod About
pub mod Beginning
pub mod Rooms
pub mod Work
