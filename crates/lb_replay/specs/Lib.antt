pub mod CommandLine
pub mod Ended
pub mod Internal
pub mod Requests
pub mod Simulation
pub mod Statuses
pub mod Text
pub mod Verifying
