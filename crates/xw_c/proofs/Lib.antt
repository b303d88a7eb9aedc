pub mod Boxes
pub mod Calling
pub mod Names
pub mod Opened
