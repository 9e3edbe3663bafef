pub mod Again
pub mod GoingOn
