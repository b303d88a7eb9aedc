pub mod FlagsLemmas
pub mod Strip
mod Tallies
pub mod Levels
