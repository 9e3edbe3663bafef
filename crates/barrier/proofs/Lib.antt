pub mod Copies
pub mod Rounds
