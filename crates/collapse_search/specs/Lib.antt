-- What the search for a collapse finds, and its links.
pub mod Links
