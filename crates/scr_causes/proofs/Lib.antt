pub mod EntryLemmas
pub mod NumberLemmas
pub mod CauseLaws
pub mod WantedLemmas
pub mod CausesExample
