pub mod Couriers
pub mod Errands
