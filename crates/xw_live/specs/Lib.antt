pub mod Engine
pub mod Levels
pub mod Live
pub mod Saved
