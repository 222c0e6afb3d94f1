-- That recovering, coalescing and flattening keep the value and give a valid form with new heads.
pub mod AddedLaws
pub mod BareLaws
pub mod BitSumLaws
pub mod CarriedLaws
pub mod CoalesceLaws
pub mod FlatRowsLaws
pub mod FlattenLaws
pub mod HeadsLaws
pub mod FreshLaws
pub mod HeldLaws
pub mod OneVarLaws
pub mod OppositeLaws
pub mod RecoverGroupLaws
pub mod RecoverPairLaws
