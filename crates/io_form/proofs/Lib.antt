-- The laws that the functions of the crate cite.
pub mod AnswerLaws
