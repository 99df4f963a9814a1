pub mod Halls
pub mod Items
pub mod Fronts
pub mod Sessions
pub mod Answers
pub use Rattle.platform_sessions.specs.Platforms
pub use Rattle.platform_sessions.specs.Works
