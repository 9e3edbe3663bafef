pub mod Conservation
pub mod Refusals
pub mod Seats
pub mod Whereabouts
