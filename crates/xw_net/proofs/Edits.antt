-- What an edit changes and what it keeps.
pub mod ExactFamilies
pub mod WrittenCells
pub mod KeptByEdits
pub mod KeptBaseWords
pub mod SameLights
pub mod UntouchedLights
pub mod ChangeFacts
pub mod ChangedWord
pub mod ChangedLights
pub mod FilledCells
pub mod ListedCells
pub mod ToldEdits
pub mod ShapeNotes
