-- What recovering, coalescing and flattening give (structure_recovery.rs).
pub mod Carried
pub mod CoalesceTerms
pub mod FlattenComplexAtoms
pub mod RecoverStructure
