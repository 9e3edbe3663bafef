pub mod Account
pub mod Fresh
pub mod Placing
pub mod Stopped
