-- What one walk of an atom's tree finds.
pub mod Bitwise
