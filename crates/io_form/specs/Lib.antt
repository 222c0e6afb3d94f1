-- What the programs are told of the bytes of a form.
pub mod Reads
pub mod Used
