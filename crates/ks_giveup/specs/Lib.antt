pub mod Descent
pub mod Goes
pub mod Once
pub mod Tries
pub mod Laws
