pub mod Flagged
pub mod Values
