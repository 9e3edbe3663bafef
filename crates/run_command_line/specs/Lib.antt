pub mod CommandLine
pub mod Internal
