pub mod LetterSetLemmas
pub mod LetterBits
