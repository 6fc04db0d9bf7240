pub mod Keeping
pub mod Again
pub mod Trio
pub mod Standing
pub mod Beside
pub mod Fresh
pub mod Steps
pub mod Going
pub mod Onward
mod Passing
