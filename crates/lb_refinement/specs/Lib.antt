pub mod Greatest
pub mod InOrder
pub mod Refined
