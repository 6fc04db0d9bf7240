pub mod Made
pub mod Summary
pub mod Size
pub mod Laws
