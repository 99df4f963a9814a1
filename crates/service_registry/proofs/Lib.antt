pub mod Best
pub mod Found
pub mod RankOrder
pub mod Sorting
pub mod Undone
