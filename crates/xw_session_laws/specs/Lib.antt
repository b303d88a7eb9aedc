pub mod Replay
pub mod Journals
pub mod Resumed
