pub mod SamePairs
