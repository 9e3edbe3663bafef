pub mod AnyOrder
pub mod Flaws
pub mod Internal
