-- The classes of places: each place in one, and each profile word that of the atom.
pub mod ClassesLaws
pub mod ColumnsLaws
pub mod ComputeLaws
pub mod OrderLaws
pub mod PartitionLaws
pub mod ProfileLaws
pub mod RetiredLaws
