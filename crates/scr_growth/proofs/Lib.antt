pub mod Drafted
pub mod GetsStood
pub mod Growing
pub mod ListenerLemmas
pub mod SettleSteps
pub mod Settled
pub mod WithoutPass
