pub mod Text
pub mod Faults
pub mod Reading
pub mod Lines
