-- Laws: nothing here is said by a clause of a call; proofs of this crate and of those above it cite them.
pub mod Fits
pub mod Widths
