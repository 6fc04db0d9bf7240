pub mod Widths
pub mod Started
pub mod Wide
pub mod Parts
pub mod Laws
