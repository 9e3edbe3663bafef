pub mod Logs
pub mod Telling
pub mod Writing
