pub mod Corners
pub mod FirstFlaws
pub mod LowerBounds
pub mod Mosts
pub mod Steps
pub mod Verdicts
pub mod Walks
