-- The laws of the definitions, for the crates above.
pub mod GroupRecoveredLaws
pub mod AllRecoveredLaws
pub mod RecoverEndLaws
