pub mod EventLists
pub mod Lives
pub mod Numbers
pub mod Refusals
pub mod Undoing
