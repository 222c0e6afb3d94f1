-- The value of a form as the entry point gives it, and the walk over atoms and terms.
pub mod Running
pub mod Value
