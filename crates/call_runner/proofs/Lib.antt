pub mod Stacked
pub mod Stepping
pub mod Measures
pub mod Owning
pub mod Results
pub mod Moving
pub mod TakenUp
