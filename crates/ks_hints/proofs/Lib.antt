pub mod Lists
pub mod Nearest
pub mod Rules
