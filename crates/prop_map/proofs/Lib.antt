pub mod ByKeyLemmas
pub mod Each
pub mod InPlace
pub mod Laws
pub mod MemberSteps
pub mod PlaceLemmas
pub mod SpellingLemmas
