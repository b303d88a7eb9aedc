pub mod Best
pub mod OneSearch
pub mod Inner
