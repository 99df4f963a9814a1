pub mod Misled
pub mod Ranked
pub mod Ready
pub mod Runs
pub mod ByNeeds
pub mod OpenMarks
pub mod SoundStates
pub mod HowMany
