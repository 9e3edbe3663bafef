pub mod Filling
pub mod Histories
pub mod Packs
pub mod Places
pub mod Queues
pub mod RoundLines
pub mod Standing
