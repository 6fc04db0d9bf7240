pub mod Scan
pub mod Lines
pub mod Asked
pub mod ServedLines
