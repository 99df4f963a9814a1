pub mod Registries
pub mod Services
pub mod Undoing
