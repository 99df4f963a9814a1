pub mod Classes
pub mod Refusals
pub mod Requests
