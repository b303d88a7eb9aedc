pub mod LeastLemmas
pub mod CandidateLemmas
pub mod GradeLemmas
pub mod ClimbLemmas
