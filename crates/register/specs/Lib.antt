-- The table of atoms in the words of an index.
pub mod Index
