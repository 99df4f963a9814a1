pub mod Cores
pub mod Platforms
pub mod SettleBounds
pub mod Desks
pub mod Calls
pub mod Callees
pub mod Requests
