-- Truth tables of bitwise trees (document 01, "Hint columns"), and the key by which trees are shared.
pub mod Truth
pub mod Key
