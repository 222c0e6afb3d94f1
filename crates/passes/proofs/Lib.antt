-- The laws that the functions of the crate cite.
mod UsedLaws
mod NamesLaws
