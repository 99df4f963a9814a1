pub mod FreeSlots
pub mod InstanceRows
pub mod Places
pub mod KnownRows
pub mod TurnDrafted
