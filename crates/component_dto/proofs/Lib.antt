pub mod EachRead
pub mod OnceLemmas
pub mod Places
pub mod TextListLemmas
