pub mod Counting
pub mod Joining
pub mod Narrowing
pub mod Plans
pub mod Sending
