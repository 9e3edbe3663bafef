pub mod Heads
pub mod Elements
pub mod Moves
pub mod Plans
pub mod PlanLists
pub mod Held
pub mod Made
pub mod Reading
