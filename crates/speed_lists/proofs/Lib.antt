pub mod ListedTimes
