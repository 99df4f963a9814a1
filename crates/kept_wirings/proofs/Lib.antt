pub mod RowPlaces
pub mod ChangedRows
pub mod MadeChanges
