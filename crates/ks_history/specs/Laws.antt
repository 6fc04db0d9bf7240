-- Laws: no clause of a call uses them; proofs of this crate and of those above it cite them.
pub mod Alone
pub mod Begins
pub mod Beside
pub mod Calls
pub mod Descent
pub mod Dues
pub mod Far
pub mod Hand
pub mod Quiet
pub mod Stays
pub mod Stretch
pub mod Turns
pub mod Underway
