pub mod Blanks
pub mod ClauseSteps
pub mod Clauses
pub mod Folding
pub mod Headers
pub mod Lines
