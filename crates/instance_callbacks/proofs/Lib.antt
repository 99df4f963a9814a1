pub mod BoundLemmas
pub mod CourseLemmas
pub mod KeptLemmas
pub mod LastLemmas
pub mod UnboundLemmas
