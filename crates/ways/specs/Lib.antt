-- Parts of a file, the marks of its records, and the ways on from a root.
pub mod Marks
pub mod Sides
pub mod Spans
