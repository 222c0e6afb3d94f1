-- Laws that the proofs of the judge's code cite.
pub mod AtomsLaws
pub mod FormForLaws
pub mod FoundLaws
pub mod PairLaws
pub mod SideOfLaws
pub mod SidesLaws
pub mod SumsLaws
pub mod UnshiftedFormLaws
