pub mod Rule
pub mod Plays
pub mod Clauses
pub mod Laws
