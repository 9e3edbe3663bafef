pub mod Deciding
pub mod Kept
pub mod Lefts
pub mod Places
pub mod Readings
pub mod Replacing
pub mod RoundLines
