pub mod Flaws
pub mod Internal
pub mod NoOrders
pub mod Orders
pub mod Refinement
pub mod Runs
pub mod Tolerances
pub mod Walks
