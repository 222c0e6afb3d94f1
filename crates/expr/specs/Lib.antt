-- What expressions mean: value, structural hash and variables of a tree, and the entry point's answer.
pub mod Value
pub mod Hash
pub mod Vars
pub mod ExprValue
pub mod Walk
