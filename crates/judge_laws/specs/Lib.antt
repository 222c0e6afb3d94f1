-- The judge of two expressions, or of two semilinear forms (document 02, #102).
pub mod Examples
pub mod Judge
pub mod Judged
pub mod PlaceSum
