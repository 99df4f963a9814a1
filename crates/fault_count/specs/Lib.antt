pub mod DecimalText
pub mod Memory
pub mod Standard
pub mod Steps
