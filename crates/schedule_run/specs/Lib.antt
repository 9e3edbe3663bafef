pub mod Lists
pub mod OneThread
pub mod Reading
pub mod Seeds
