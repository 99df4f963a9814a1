pub mod Answers
pub mod Connections
pub mod Faults
pub mod Flows
pub mod Requests
