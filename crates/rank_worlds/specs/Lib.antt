pub mod LateNotes
pub mod LateRuns
pub mod RankRuns
pub mod StampedRanks
pub mod Worlds
