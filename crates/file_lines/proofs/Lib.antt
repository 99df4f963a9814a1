pub mod FoundLineFeed
pub mod HandingLemmas
pub mod ReadingLemmas
pub mod SourceLemmas
pub mod TextLemmas
