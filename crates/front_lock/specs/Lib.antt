pub mod Histories
pub mod Keepings
pub mod Passes
pub mod Rule
pub mod Steps
