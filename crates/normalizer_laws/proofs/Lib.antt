-- That normalising keeps the value and gives a valid form.
pub mod AndLaws
pub mod CollectLaws
pub mod ConstantLaws
pub mod EmittedLaws
pub mod ExampleLaws
pub mod JoinLaws
pub mod NormalizeLaws
pub mod RefusedLaws
pub mod RegisterLaws
pub mod RootLaws
pub mod UsedLaws
