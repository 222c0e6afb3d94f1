-- The laws of the definitions, for the crates above.
pub mod AddLaws
pub mod AndSideLaws
pub mod CollectsLaws
pub mod DescentLaws
pub mod PushLaws
pub mod SpotsLaws
pub mod WayDownLaws
pub mod WayOnLaws
pub mod WholeLaws
