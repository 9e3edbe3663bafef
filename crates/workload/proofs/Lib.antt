pub mod Judged
pub mod Kept
pub mod Pieces
pub mod Runs
pub mod Stops
pub mod Told
pub mod Texts
