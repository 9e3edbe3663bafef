pub mod Times
pub mod Events
pub mod Lines
pub mod Shown
pub mod Writing
pub mod Steps
