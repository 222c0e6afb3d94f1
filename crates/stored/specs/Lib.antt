-- The types of entries.
pub mod Kinds
