pub mod Bound
pub mod Courses
pub mod Held
pub mod KeptServices
