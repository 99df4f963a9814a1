pub mod FirstLemmas
pub mod OrderLaws
pub mod StableOrder
