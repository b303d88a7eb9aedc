pub mod File
pub mod Group
pub mod Journal
