pub mod Asking
pub mod Satisfying
pub mod SeenSame
pub mod UnseenEntries
pub mod UnseenRows
pub mod UnseenStages
