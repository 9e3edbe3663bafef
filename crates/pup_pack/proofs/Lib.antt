pub mod Resumed
pub mod Packs
pub mod Texts
pub mod Products
