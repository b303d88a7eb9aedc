pub mod Part
pub mod FaultNames
pub mod Finished
pub mod Steps
pub mod Order
pub mod Puz
pub mod Text
pub mod Formats
