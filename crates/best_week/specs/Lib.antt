-- The best seven days of a run (document 02, #112).
pub mod Run
pub mod BestWeek
pub mod Told
pub mod Walk
pub mod Answer
pub mod Examples
