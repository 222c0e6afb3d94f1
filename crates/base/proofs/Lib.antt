-- The laws of choice, lists and their parts, loops, searches and slices.
pub mod BoolLaws
pub mod LimitsLaws
pub mod ListsLaws
pub mod LoopLaws
pub mod PartLaws
pub mod PutLaws
pub mod RefusalLaws
pub mod SearchLaws
