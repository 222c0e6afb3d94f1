-- Literals in place of variable-free subtrees, as code writes them.
pub mod Folding
