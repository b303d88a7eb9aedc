pub mod Disk
pub mod Asked
pub mod Kept
pub mod CallFile
