pub mod Chosen
pub mod Standing
pub mod Rows
pub mod Reaches
