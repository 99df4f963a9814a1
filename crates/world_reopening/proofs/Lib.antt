pub mod Behind
pub mod ReopeningLaws
pub mod SameChanges
