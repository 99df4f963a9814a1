pub mod Listening
pub mod Numbers
pub mod Refusals
pub mod Saves
pub mod Undoing
