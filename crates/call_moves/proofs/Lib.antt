pub mod Moves
pub mod Lengths
pub mod Feeding
pub mod Agreements
pub mod Recursions
pub mod Steps
