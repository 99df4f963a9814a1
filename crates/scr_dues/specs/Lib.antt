pub mod Beginnings
pub mod Desires
pub mod FirstDues
pub mod LeanViews
pub mod Makings
pub mod Wanting
