-- The semilinear form (document 01: sheet): its meaning, its bytes, its validity, and what a pass gives.
pub mod Form
pub mod Items
pub mod Atoms
pub mod Valid
pub mod DecodeForm
pub mod Outcome
pub mod PassOutcome
pub mod Answers
pub mod Scan
