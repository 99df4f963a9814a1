pub mod BehindLemmas
pub mod FlowLemmas
pub mod ServingLemmas
