pub mod Way
pub mod Visits
pub mod TryPuts
pub mod Spans
pub mod Moving
