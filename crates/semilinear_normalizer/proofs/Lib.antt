-- The laws that the proofs of the entry points cite: the whole tree, rules 2, and the form that is written.
pub mod WrittenLaws
pub mod WholeTreeLaws
pub mod RulesLaws
