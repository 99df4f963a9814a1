pub mod Services
pub mod Tellings
pub mod Told
