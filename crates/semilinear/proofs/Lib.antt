-- The laws of the definitions, for the crates above.
pub mod ItemsLaws
pub mod OutcomeLaws
pub mod FrontLaws
pub mod FormLaws
pub mod ValidLaws
pub mod AcceptLaws
pub mod AtomLaws
pub mod RowsLaws
pub mod EncodeFormLaws
pub mod RetiredLaws
pub mod ScanLaws
pub mod WalkLaws
