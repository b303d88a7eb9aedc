pub mod Bits
pub mod Summary
pub mod SetBits
pub mod BitRow
