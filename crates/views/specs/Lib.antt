-- The bases of a form's rows, and the rows as a pass sees them in lent words.
pub mod Bases
pub mod Grouping
pub mod Views
