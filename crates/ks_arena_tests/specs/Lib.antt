pub mod Puts
pub mod Turns
pub mod Gets
