pub mod Decisions
pub mod Moves
