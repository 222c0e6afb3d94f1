-- The worked examples of document 01 (starred puzzles), cases that are easy to get wrong, at 63 and 64 bits and on
-- bytes; any list of calls; byte 1 of heads; the bytes of files before variables had two; and the split of an atom.
pub mod Example
pub mod Examples
pub mod Slips
pub mod Masks
pub mod Wide
pub mod OnBytes
pub mod Calls
pub mod Normalized
pub mod Atoms
pub mod Heads
pub mod Variables
pub mod Split
