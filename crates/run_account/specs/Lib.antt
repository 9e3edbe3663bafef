pub mod Buffers
pub mod Gathering
pub mod Noting
pub mod Reopenings
pub mod RunAccounts
