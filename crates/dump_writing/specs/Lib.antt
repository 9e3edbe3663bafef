pub mod Joined
pub mod Narrow
pub mod Parts
pub mod Writing
