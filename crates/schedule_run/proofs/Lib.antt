pub mod Lefts
pub mod ListFaults
pub mod SeedLines
pub mod Tellings
pub mod Verdicts
