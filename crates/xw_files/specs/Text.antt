-- The text format.
pub mod Lines
pub mod Tag
pub mod Starts
pub mod Shape
pub mod Written
pub mod Relation
pub mod Location
pub mod Faults
