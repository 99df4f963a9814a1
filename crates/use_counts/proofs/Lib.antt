pub mod Undone
pub mod UseRows
