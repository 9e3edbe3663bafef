pub mod Lists
pub mod Merged
pub mod Named
pub mod Narrowing
pub mod Totals
pub mod Walks
pub mod Weights
pub mod Windows
