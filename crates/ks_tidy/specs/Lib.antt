pub mod Pair
pub mod Where
pub mod Of
pub mod Walking
pub mod Compacts
pub mod Laws
