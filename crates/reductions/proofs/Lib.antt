pub mod Nodes
pub mod Letters
pub mod Trees
pub mod Exchanges
pub mod Fairness
pub mod Arrivals
pub mod GoingOn
pub mod Results
