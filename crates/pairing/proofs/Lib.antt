-- What recovering a pair needs.
pub mod XoredLaws
pub mod RecoveredLaws
pub mod RecoverLaws
