pub mod Places
pub mod DocumentWirings
pub mod WiringRows
pub mod KeptRows
pub mod WiringChanges
