-- The partition of a semilinear form's places by the profiles of its atoms (document 01: hint columns).
pub mod Places
