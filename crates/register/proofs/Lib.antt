-- The laws of the definitions, for the crates above.
pub mod AppendedLaws
pub mod BuiltLaws
pub mod IndexLaws
pub mod ReachedLaws
pub mod RegisteredLaws
pub mod SharedLaws
pub mod SlotLaws
pub mod StepLaws
