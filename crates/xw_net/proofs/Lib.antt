pub mod Lists
pub mod Edits
pub mod Costs
pub mod BaseRows
pub mod Revivals
pub mod Stripping
pub mod Nets
pub mod Levels
