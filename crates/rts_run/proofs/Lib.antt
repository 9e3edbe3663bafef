pub mod Counts
pub mod Faults
pub mod Opened
pub mod Rounds
pub mod Seated
