pub mod WholeLines
pub mod Groups
pub mod Answering
pub mod Entered
pub mod Keeping
