-- The atom table of a form that is being made, the terms behind it, and the begin and the end of a pass.
pub mod Table
pub mod Terms
