pub mod Cores
pub mod Halls
pub mod Commands
pub mod Reads
pub mod Works
pub mod Uses
pub use Rattle.hall_locked.specs.Platforms
