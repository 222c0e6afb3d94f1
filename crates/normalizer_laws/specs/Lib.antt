-- What normalising gives (semilinear_normalizer.rs, semilinear.rs).
pub mod Collect
pub mod Normalize
pub mod Register
