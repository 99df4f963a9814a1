pub mod Cores
pub mod Owned
pub mod OwnedCores
pub mod Uses
pub mod Moving
pub mod Locks
pub mod Parts
pub use Rattle.platform_hall.specs.Platforms
