-- The base words of lights as rows of bits.
pub mod WrittenRows
pub mod BaseBits
pub mod BaseLetters
pub mod ClearRows
pub mod NarrowedRows
pub mod FilledRows
