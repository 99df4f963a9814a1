pub mod Changes
pub mod Ends
pub mod Gets
pub mod Lefts
pub mod Moves
