pub mod Drafts
pub mod Keeps
pub mod Rows
