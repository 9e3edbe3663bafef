pub mod Dumps
pub mod Recording
pub mod Text
pub mod Layout
pub mod Fields
pub mod Faults
pub mod Kept
