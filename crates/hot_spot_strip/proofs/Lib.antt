pub mod OpeningStrips
pub mod Shows
pub mod Steps
pub mod Sweeps
pub mod Units
