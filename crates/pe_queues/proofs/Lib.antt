pub mod Lists
pub mod Steps
pub mod Tickets
pub mod Totals
