-- Recovering through entries and groups, as the code goes.
pub mod Recovering
