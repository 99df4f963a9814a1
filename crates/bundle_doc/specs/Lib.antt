pub mod Documents
pub mod Entries
pub mod Faults
pub mod Headers
pub mod Inside
pub mod Names
pub mod Texts
