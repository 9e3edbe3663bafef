pub mod Reports
mod Refused
mod Pairs
