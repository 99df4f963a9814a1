pub mod CutRows
pub mod TakenRows
pub mod ToldRows
pub mod Untold
