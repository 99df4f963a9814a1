pub mod OneTelling
pub mod Pairs
pub mod Places
pub mod KeptParts
