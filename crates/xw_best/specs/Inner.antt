-- What proofs and inner functions need, and no public contract cites but by `OneSearch.antt`.
pub mod Candidate
pub mod Climbing
pub mod OfState
