pub mod Called
pub mod Served
