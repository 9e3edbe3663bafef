pub mod Found
pub mod OneReports
pub mod Plans
pub mod ToldLines
