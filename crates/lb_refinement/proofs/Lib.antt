mod Blocks
mod GreatestLoads
pub mod InOrderCases
pub mod KeptWhole
mod MovedSums
pub mod OneRefined
mod RefinedBlocks
pub mod RefinedCases
