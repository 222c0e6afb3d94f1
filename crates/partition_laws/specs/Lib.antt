-- The partition classes and what they say (document 01, "Hint columns"; bit_partitioner.rs).
pub mod Classes
pub mod Columns
pub mod Partition
