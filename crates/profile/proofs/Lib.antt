-- The laws of the definitions, for the crates above.
pub mod AtomWordsLaws
pub mod EdgesLaws
pub mod FactsLaws
pub mod IndexLaws
pub mod MoveLaws
