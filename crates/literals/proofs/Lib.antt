-- The laws of the definitions.
pub mod FoldingLaws
mod RootLaws
mod OneChildLaws
mod TwoChildrenLaws
mod LastChildLaws
