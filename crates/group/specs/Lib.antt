-- The group of a pass (document 01, "The shorter sheet"): its entries, gathered and settled, and the steps of refining.
pub mod Group
pub mod Steps
pub mod Collapse
pub mod Made
pub mod Ready
pub mod Pair
pub mod Bucket
pub mod Stages
pub mod Gathered
pub mod Fair
pub mod Turns
