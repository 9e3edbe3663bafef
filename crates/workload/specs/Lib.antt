pub mod Text
pub mod Faults
pub mod Machine
pub mod Reading
