pub mod InOrder
pub mod Lists
pub mod Merged
pub mod Rows
