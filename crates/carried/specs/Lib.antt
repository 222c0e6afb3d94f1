-- Coalescing through the groups, as the code goes.
pub mod Coalescing
