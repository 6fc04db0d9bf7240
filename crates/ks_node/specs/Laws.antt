-- Laws: no clause of a call uses them; proofs of this crate and of those above it cite them.
pub mod Adopts
pub mod Ascend
pub mod Cuts
pub mod Keep
pub mod Puts
pub mod Room
pub mod Spans
pub mod Starts
pub mod Ways
pub mod Within
pub mod Wrapped
