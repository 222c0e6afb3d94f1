-- The laws of the definitions, for the crates above.
pub mod CompactLaws
pub mod CompactedLaws
pub mod CopyLaws
pub mod RenumberLaws
