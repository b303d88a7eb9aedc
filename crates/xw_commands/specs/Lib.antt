pub mod Line
pub mod Names
pub mod Reading
pub mod Query
pub mod Change
pub mod Search
pub mod Command
