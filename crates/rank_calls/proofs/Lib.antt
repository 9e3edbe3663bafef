pub mod Openings
pub mod Fields
pub mod Values
pub mod Spent
pub mod Reasons
