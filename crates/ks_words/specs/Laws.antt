-- Laws: no clause of a call uses them; proofs of the crates above cite them.
pub mod Askings
