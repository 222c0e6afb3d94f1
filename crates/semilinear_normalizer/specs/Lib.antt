-- The room that normalising works in, the copy that rules 2 work on, and the refusals before the tree is looked at.
pub mod WorkRoom
pub mod Copy
pub mod FileRefusal
