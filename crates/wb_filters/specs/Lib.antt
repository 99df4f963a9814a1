pub mod BoardServices
pub mod Chains
pub mod Pages
pub mod Chaining
pub mod Inside
