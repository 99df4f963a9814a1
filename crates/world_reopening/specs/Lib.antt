pub mod ChangesOf
pub mod Readings
pub mod Reopening
