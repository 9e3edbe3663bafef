pub mod Calls
pub mod Messages
pub mod Owning
pub mod Refusals
pub mod Runs
