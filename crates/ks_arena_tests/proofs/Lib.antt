pub mod Crews
pub mod Ends
pub mod Numbers
pub mod Root
pub mod Wider
