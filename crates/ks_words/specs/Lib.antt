pub mod Pairings
pub mod Words
pub mod PairingWords
pub mod Laws
