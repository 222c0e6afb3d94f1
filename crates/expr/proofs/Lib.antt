-- The laws of the definitions, for the crates above.
pub mod ValueLaws
pub mod HashLaws
pub mod IsExprLaws
pub mod ExprValueLaws
pub mod AcceptLaws
pub mod VarsLaws
pub mod SupportLaws
pub mod ExampleLaws
