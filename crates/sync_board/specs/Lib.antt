pub mod Boards
pub mod Refusals
pub mod Strategies
