pub mod ChainLemmas
pub mod Examples
pub mod FilterLemmas
pub mod FirstLemmas
pub mod FitLemmas
pub mod OrderLaws
