-- Laws: no clause of a call uses them; proofs of the crates above cite them.
pub mod Due
pub mod Ended
pub mod Drafted
pub mod Outcomes
pub mod Whys
