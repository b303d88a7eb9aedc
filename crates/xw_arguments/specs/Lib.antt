pub mod Shapes
pub mod Calls
pub mod Tips
pub mod Usage
