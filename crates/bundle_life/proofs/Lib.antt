pub mod Installs
pub mod Refused
pub mod RowLaws
pub mod Steps
