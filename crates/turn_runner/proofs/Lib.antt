pub mod Settlings
mod Heard
