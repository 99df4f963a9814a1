pub mod AdmissionLemmas
pub mod Answering
