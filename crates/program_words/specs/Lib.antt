pub mod Arguments
pub mod Fractions
