pub mod Chains
pub mod Rows
pub mod Spans
pub mod Tables
pub mod Windows
