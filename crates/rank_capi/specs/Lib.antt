pub mod Answers
pub mod Notes
pub mod Statuses
