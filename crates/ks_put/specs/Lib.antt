pub mod Parts
pub mod HadRoom
pub mod Deeper
pub mod Narrows
pub mod Of
pub mod Tries
