-- What proofs and inner functions need, and no public contract cites but by `OneSearch.antt`.
pub mod EnteredSince
pub mod OfState
pub mod Tries
pub mod Stepping
pub mod Trial
