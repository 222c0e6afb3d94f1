-- The laws of the definitions, for the crates above.
pub mod BasesLaws
pub mod FirstRowsLaws
pub mod GroupsLaws
pub mod HasBasisLaws
pub mod InsertLaws
pub mod NextBasisLaws
pub mod NoneBeforeLaws
pub mod ReadLaws
pub mod SplitLaws
pub mod ViewLaws
pub mod ViewsLaws
