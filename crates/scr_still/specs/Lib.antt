pub mod StillEnds
pub mod Stillness
