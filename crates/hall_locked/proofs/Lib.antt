pub mod Logs
pub mod Appends
mod Sites
mod Kept
mod Changes
mod Stretches
pub mod Sends
pub mod Counts
mod Told
pub mod Turning
pub mod Placed
mod Generations
mod Awaiting
mod Gates
pub mod Uses
mod Getting
mod Calls
pub use Rattle.platform_hall.proofs.Desks
pub use Rattle.platform_hall.proofs.Lists
pub use Rattle.platform_hall.proofs.Settlings
pub use Rattle.platform_hall.proofs.Starts
pub use Rattle.platform_hall.proofs.Steps
pub use Rattle.platform_hall.proofs.Turns
pub use Rattle.platform_hall.proofs.WorkStays
