pub mod Evaluates
pub mod Calls
pub mod Servlets
pub mod Answers
