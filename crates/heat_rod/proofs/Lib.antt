pub mod Showing
pub mod Steps
