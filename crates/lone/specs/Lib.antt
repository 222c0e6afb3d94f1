-- A basis that one row alone has.
pub mod Lone
