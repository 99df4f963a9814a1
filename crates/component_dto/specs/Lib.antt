pub mod Descriptions
pub mod Faults
pub mod Fields
pub mod References
pub mod Rules
pub mod Targets
pub mod TextLists
pub mod Words
