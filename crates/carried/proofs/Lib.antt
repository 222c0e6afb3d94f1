-- Coefficients bit by bit, and the terms that they make.
pub mod CarriedInLaws
pub mod CarriedToLaws
pub mod NewTermsLaws
