-- The laws of the definitions, for the crates above.
pub mod FoundLaws
