pub mod Laws
pub mod Sums
pub mod Text
