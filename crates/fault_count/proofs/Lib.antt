pub mod Pieces
pub mod SpelledNumber
