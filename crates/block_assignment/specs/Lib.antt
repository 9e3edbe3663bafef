pub mod Discounted
pub mod Held
pub mod Least
pub mod Lists
pub mod Search
pub mod Table
