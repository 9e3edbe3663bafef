pub mod Figures
pub mod Text
