pub mod Emptiness
pub mod FactoryPids
pub mod PidRows
pub mod Undone
