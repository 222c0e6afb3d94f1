-- Flattening through the rows, as the code goes.
pub mod Flattening
