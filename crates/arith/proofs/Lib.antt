-- The laws of arithmetic modulo 2 ^ w, of bits and of masks.
pub mod CongruenceLaws
pub mod BitLaws
pub mod MaskLaws
pub mod WidthLaws
pub mod EffectiveLaws
mod WordLaws
