pub mod Again
pub mod KeptWorlds
pub mod Lines
pub mod Memory
pub mod Orders
pub mod Stored
pub mod Tables
