-- Tests of a tree (expr_utils.rs).
pub mod Utils
