pub mod ServiceTables
pub mod DirectCauses
pub mod CauseLaws
pub mod Standings
pub mod WantedHere
