-- The laws of the definitions, for the crates above.
pub mod BareFoundLaws
pub mod ConstantLaws
pub mod HashBytesLaws
pub mod SearchLaws
pub mod ShowsLaws
