pub mod Calls
pub mod Dumps
pub mod Owning
pub mod Reading
