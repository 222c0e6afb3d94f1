-- Compacting the atom table (semilinear.rs 292-318).
pub mod Compact
