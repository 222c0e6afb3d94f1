-- The worked examples computed, the claim about any list of calls, what the atoms of a valid form hold, byte 1 of
-- heads, variables of one byte and of two, and the split of an atom.
mod ExamplesLaws
pub mod CallsLaws
pub mod NormalizedLaws
pub mod AtomsLaws
pub mod HeadsLaws
pub mod VariablesLaws
pub mod SplitLaws
