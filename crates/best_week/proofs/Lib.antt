-- The laws of the definitions.
pub mod SearchLaws
pub mod SignedLaws
pub mod TotalLaws
pub mod WeekLaws
pub mod WalkLaws
pub mod BestLaws
pub mod RefusalLaws
pub mod EntryLaws
pub mod ExamplesLaws
