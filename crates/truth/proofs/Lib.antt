-- The laws of the definitions; those that other crates use are public.
pub mod BitwiseLaws
pub mod BitOfLaws
pub mod TruthLaws
pub mod PlaceLaws
pub mod RowsLaws
pub mod FirstVarsLaws
mod WordTableLaws
pub mod KeyLaws
mod HalvesLaws
mod PassedLaws
