pub mod MoveLists
pub mod OneDecisions
pub mod PriceBounds
pub mod RightDecisions
