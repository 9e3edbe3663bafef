pub mod Lengths
pub mod Lights
