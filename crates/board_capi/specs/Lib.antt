pub mod Dumps
pub mod Statuses
