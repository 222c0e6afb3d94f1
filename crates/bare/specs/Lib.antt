-- The search for a bare atom, and what is shown of a table that may be full.
pub mod Search
pub mod Showing
