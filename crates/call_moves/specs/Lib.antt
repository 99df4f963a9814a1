pub mod Evaluations
pub mod Recursion
pub mod Fronts
pub mod Progress
