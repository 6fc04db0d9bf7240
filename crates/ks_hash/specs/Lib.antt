pub mod Slices
pub mod Hash
pub mod Parts
pub mod Laws
