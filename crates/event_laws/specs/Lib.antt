pub mod Agreement
pub mod Barrier
pub mod Bound
pub mod Chase
pub mod Finished
pub mod Measured
pub mod Rounds
pub mod TwoEvents
