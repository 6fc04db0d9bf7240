-- Laws: no clause of a call uses them; proofs of this crate and of those above it cite them.
pub mod Aside
pub mod Beyond
pub mod FromSound
pub mod Reuse
pub mod Tells
pub mod Writes
