pub mod TurnDrafts
