pub mod Chains
pub mod Tellings
