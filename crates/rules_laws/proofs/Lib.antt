-- That normalising by either rules keeps the value and gives a valid form.
pub mod DescendLaws
pub mod ExamplesLaws
pub mod FoldLaws
pub mod NotsLaws
pub mod RefusedLaws
pub mod RulesLaws
