pub mod Asking
pub mod Collecting
pub mod Endings
pub mod Lefts
pub mod Tellings
