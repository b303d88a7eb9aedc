-- The way back of a search, and the letters that it enters.
pub mod KeptRows
pub mod EnteredBoards
pub mod EnteredFamilies
pub mod EnteredMarks
pub mod StruckLights
pub mod FoundLetters
pub mod WaysBack
pub mod NewCells
pub mod NarrowedLights
pub mod EnteredLetters
pub mod EnteredNets
pub mod PlacedLetters
pub mod SettledAgain
pub mod TriedLetters
pub mod RememberedWords
pub mod EmptiedLights
