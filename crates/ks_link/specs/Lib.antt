pub mod Descent
pub mod Near
pub mod Parts
pub mod Puts
pub mod Leads
pub mod Of
pub mod Tries
