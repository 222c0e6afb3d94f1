-- What a list of passes gives, run from an expression; where the form in use stands on the way.
pub mod RunPasses
pub mod Passes
pub mod Placed
