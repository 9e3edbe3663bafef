pub mod Agreed
pub mod Following
pub mod Own
pub mod Counts
pub mod Reached
pub mod Walks
pub mod Rising
pub mod Right
