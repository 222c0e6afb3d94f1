-- That the judge is right.
pub mod CompareLaws
pub mod DescentLaws
pub mod ExamplesLaws
pub mod JudgeLaws
pub mod PlaceSumLaws
pub mod PlacesLaws
pub mod RefusedLaws
pub mod SingleLaws
pub mod SoundLaws
pub mod SwapLaws
pub mod UnshiftedLaws
