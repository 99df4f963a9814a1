pub mod FilterLemmas
pub mod TextLemmas
pub mod TokenLemmas
pub mod LoadLemmas
pub mod Draws
pub mod TextArrays
