-- What everything uses and no format needs: choice, lists, loops, slices, what a call gives, and the limits.
pub mod Choice
pub mod Limits
pub mod Lists
pub mod Loop
pub mod Outcome
pub mod Put
pub mod Refusal
