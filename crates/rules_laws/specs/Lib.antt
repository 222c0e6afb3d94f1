-- Normalising by the rules that its caller names (request #109).
pub mod Rules
pub mod Descend
pub mod Examples
