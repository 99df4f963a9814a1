pub mod Asked
pub mod Given
pub mod Drafting
pub mod Judgements
pub mod Changing
pub mod Lasting
