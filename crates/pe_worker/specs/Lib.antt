pub mod Causes
pub mod Seated
pub mod Steps
pub mod Workers
