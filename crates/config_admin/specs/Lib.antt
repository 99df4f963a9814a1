pub mod Configurations
pub mod Orders
pub mod Refusals
pub mod Undoing
