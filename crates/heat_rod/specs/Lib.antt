pub mod GhostCells
pub mod Heating
pub mod Packing
pub mod Rods
pub mod Stages
pub mod Strips
pub mod Sweeps
