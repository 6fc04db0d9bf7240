-- Laws: no clause of a call uses them; proofs of this crate and of those above it cite them.
pub mod Ends
