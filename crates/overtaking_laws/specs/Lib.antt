pub mod FreeRuns
pub mod Hops
pub mod Overtaking
pub mod StaleRuns
pub mod StampedRuns
