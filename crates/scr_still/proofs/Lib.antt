pub mod HeldThrough
pub mod KeptHeld
pub mod LivesEnded
pub mod StillEndGrowth
pub mod StillGrowth
pub mod StillHeld
pub mod StillShut
pub mod StillStage
