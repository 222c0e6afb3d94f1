-- The laws of the definitions, for the crates above.
pub mod InnerLaws
pub mod MarkedLaws
pub mod MarksLaws
pub mod PartLaws
pub mod PlaceLaws
pub mod PutSpanLaws
pub mod SideLaws
pub mod SpanOfLaws
pub mod TermsLaws
pub mod TwoSidesLaws
pub mod WayLaws
