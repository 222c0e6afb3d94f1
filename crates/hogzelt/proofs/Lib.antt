-- Any list of calls of the exported functions, the best week and the judge, by their own contracts.
pub mod Trace
pub mod TraceLaws
mod ExistsLaws
mod RunLaws
pub mod AnyCalls
pub mod BestWeekLaws
pub mod JudgeCallLaws
