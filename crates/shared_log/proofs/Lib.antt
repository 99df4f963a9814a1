pub mod EqualItems
pub mod Merging
