pub mod Letter
pub mod LetterSet
