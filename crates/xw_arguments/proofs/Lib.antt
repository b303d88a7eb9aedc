pub mod Rows
pub mod Usages
pub mod Commands
pub mod TipLemmas
