pub mod Text
pub mod Faults
pub mod Reading
pub mod Writing
pub mod Tallies
pub mod Scanning
pub mod Fields
pub mod Bodies
