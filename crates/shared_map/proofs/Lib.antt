pub mod MergingLemmas
pub mod PartLemmas
pub mod RowLemmas
