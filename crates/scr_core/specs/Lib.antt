pub mod Cores
pub mod Keeping
pub mod Turns
pub mod Steps
pub mod Beginnings
pub mod Drafting
