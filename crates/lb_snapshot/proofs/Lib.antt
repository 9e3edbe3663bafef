pub mod LoadBits
pub mod LoadSums
pub mod Made
pub mod Parts
