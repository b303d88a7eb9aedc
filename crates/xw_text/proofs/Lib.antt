pub mod Position
pub mod LineLemmas
pub mod FirstLineLemmas
pub mod DigitLemmas
