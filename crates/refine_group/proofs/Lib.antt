-- Refining one group.
pub mod RefiningLaws
