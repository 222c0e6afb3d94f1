-- The rows of a pass, and its atom table in lent words.
pub mod Made
pub mod Rows
pub mod Shown
