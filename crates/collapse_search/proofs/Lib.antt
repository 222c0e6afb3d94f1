-- The laws of the definitions, for the crates above.
pub mod CollapseMetLaws
pub mod FindLaws
pub mod LinksLaws
pub mod ThirdLaws
