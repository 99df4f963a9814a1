mod Shelves
pub mod Levels
mod Keeping
pub mod Known
pub mod Alone
pub mod Meetings
