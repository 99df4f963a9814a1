mod Commands
mod Leaving
mod LastingDrafts
mod Unchanged
mod States
mod Given
mod Filling
pub mod CommandRoom
pub mod Drafted
pub mod Judged
pub mod Plain
pub mod Tables
pub mod Changed
