-- The laws of the definitions, for the crates above.
pub mod FinishLaws
pub mod HoldsLaws
pub mod MadeLaws
pub mod PassLaws
pub mod ReadLaws
pub mod SpansLaws
pub mod TableLaws
pub mod TermsLaws
pub mod TermLengthLaws
