pub mod Adding
pub mod Depths
pub mod Kept
pub mod Stepping
pub mod Sums
