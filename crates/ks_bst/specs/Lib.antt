pub mod Bst
pub mod Parts
pub mod Laws
