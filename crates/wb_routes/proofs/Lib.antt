pub mod HomeLemmas
pub mod OrderLaws
pub mod OwnerLemmas
pub mod RouteLemmas
pub mod SelectLemmas
pub mod StepLemmas
pub mod TableLemmas
