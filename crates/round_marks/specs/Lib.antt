pub mod Agreeing
pub mod Finished
pub mod Marked
pub mod Quiet
pub mod Runs
