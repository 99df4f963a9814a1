pub mod Allowed
pub mod Described
pub mod Drafting
pub mod Idle
pub mod Updates
