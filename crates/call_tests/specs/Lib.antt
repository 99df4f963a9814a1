pub mod Insisting
