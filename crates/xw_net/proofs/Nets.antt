-- Nets between edits: empty, settled, adapted to other lights, and copied.
pub mod SlotsApart
pub mod FreshNets
pub mod RowRoom
pub mod RenumberedLights
pub mod NetsAlike
pub mod NetsAtRest
pub mod BlankNets
pub mod SettledNets
pub mod FirstFlag
pub mod TurnedNets
pub mod MovedNets
pub mod SizesAtRest
pub mod CopiedNets
pub mod TalliedLetters
