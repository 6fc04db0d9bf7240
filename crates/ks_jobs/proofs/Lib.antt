pub mod Lists
pub mod Reserved
