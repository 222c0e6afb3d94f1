-- What the judge's code asks and finds.
pub mod Forms
pub mod Found
pub mod Sums
