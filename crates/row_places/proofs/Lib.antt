pub mod NumberLaws
pub mod RowOrderLaws
pub mod RowPlaceLaws
