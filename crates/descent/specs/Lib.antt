-- What a descent has collected, in lent words.
pub mod Spots
