-- The passes by name.
pub mod Names
