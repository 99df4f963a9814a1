pub mod FoundLemmas
pub mod LatestLemmas
pub mod ServiceLemmas
pub mod ToldLemmas
