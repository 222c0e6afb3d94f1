-- Refusals 1 and 3 to 6 of an expression's bytes, and which trees are expressions.
pub mod Refusal
