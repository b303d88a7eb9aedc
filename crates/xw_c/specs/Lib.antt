pub mod Calls
pub mod Held
pub mod OpenSession
pub mod Status
