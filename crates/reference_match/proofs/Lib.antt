pub mod Filters
pub mod Found
