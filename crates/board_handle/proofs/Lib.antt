pub mod Dumped
pub mod Fields
pub mod Refused
pub mod Rounds
