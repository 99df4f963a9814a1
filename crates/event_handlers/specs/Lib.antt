pub mod Handling
pub mod Kept
