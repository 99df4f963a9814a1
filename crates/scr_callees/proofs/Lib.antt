pub mod HeldNames
pub mod Providing
pub mod Reaching
