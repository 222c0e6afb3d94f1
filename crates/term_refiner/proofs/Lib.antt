-- The laws of the definitions, for the crates above.
pub mod AllRefinedLaws
pub mod RowsRefinedLaws
pub mod RefinedLaws
