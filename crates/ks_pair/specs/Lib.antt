pub mod Both
pub mod Of
pub mod Laws
