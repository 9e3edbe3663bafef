pub mod Configs
pub mod Openings
pub mod Outcomes
pub mod Usual
