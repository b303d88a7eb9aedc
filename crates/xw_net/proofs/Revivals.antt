-- How words and letters come back after an edit.
pub mod RevivalCovers
pub mod LettersComeBack
pub mod WordsComeBack
pub mod ChainIsRevival
pub mod ChainOfNet
pub mod CarriedIsReady
pub mod UnstrippedNet
pub mod StartIsRevival
pub mod FreedCells
pub mod Forgetting
pub mod Touching
pub mod OpenedRows
pub mod OpenedSupports
pub mod OpenedNet
pub mod FilledCell
