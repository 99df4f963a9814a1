pub mod Enabled
