pub mod GoingOn
pub mod Places
