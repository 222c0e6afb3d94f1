-- The laws of the definitions, for the crates above.
pub mod ComplexLaws
pub mod FlatFormLaws
pub mod FlatTurnLaws
pub mod FlatWalkLaws
pub mod KeptRowsLaws
pub mod NewRowLaws
pub mod ShownLaws
