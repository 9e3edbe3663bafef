pub mod Finished
pub mod Placed
pub mod Places
pub mod Rounds
pub mod Unrefused
