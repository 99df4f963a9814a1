mod RemainingServices
mod EnabledFlags
pub mod BundleStates
mod ContentsAfter
mod Starts
mod Stops
mod ComponentFlags
mod EnabledAlready
