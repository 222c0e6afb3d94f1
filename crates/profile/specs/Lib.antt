-- The edges of an atom, the index of the atoms, and the profile of a place.
pub mod Edges
pub mod Index
pub mod Profile
