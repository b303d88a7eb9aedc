pub mod Passing
pub mod Naming
pub mod Named
pub mod LightLists
pub mod Held
