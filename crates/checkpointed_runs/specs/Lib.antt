pub mod Beginning
pub mod Driving
pub mod Keeping
pub mod Lines
pub mod Pausing
pub mod Whole
