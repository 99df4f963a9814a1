pub mod Servlets
pub mod Candidates
pub mod Choices
pub mod Listing
pub mod Tables
