-- Arithmetic modulo 2 ^ w, the bits of a number, and the bits of a factor that count beside a coefficient.
pub mod Congruence
pub mod Bit
pub mod Width
pub mod Effective
