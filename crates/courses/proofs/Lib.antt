pub mod Courses
pub mod Idle
pub mod Picks
pub mod Sizes
pub mod Shown
pub mod TriedEvents
