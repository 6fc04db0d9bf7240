pub mod Hints
pub mod Posts
pub mod Rule
