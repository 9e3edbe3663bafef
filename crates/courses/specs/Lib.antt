pub mod Courses
pub mod Searches
pub mod Picks
