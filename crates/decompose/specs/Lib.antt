-- A bitwise tree as basis and mask (`decompose_atom`).
pub mod Basis
pub mod Decompose
