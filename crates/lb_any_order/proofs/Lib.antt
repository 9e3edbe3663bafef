mod Cases
pub mod Decided
