-- The laws of the definitions, for the crates above.
pub mod KeptLaws
pub mod StepsLaws
pub mod MergeLaws
pub mod CollapseLaws
pub mod RefineLaws
pub mod RefineFormLaws
