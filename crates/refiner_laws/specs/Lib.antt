-- Refining the terms of a semilinear form (document 01, "The shorter sheet"; term_refiner.rs).
pub mod RefineTerms
pub mod Refining
