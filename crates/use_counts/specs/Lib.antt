pub mod Refusals
pub mod Undoing
pub mod Uses
