-- The marks of a group's entries, tests on one and on two entries, and what a search answers.
pub mod Marks
pub mod Tests
pub mod Found
