pub mod Broadcasts
pub mod Reading
