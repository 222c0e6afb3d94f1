-- The laws of the definitions, for the crates above.
pub mod FieldsLaws
pub mod SpanLaws
pub mod SizedLaws
pub mod BytesLaws
pub mod VariableLaws
pub mod EncodeLaws
pub mod DecodeLaws
pub mod LeafLaws
pub mod PlaceLaws
