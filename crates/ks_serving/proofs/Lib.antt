pub mod Calling
pub mod Joined
pub mod Replies
pub mod Running
pub mod Spread
pub mod Staffed
