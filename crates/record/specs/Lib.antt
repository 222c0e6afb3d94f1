-- The 16-byte record of document 01, expression trees in it, and recursion over spans of records.
pub mod Fields
pub mod Tree
pub mod Span
pub mod Decode
