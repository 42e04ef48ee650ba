-- The sprites that cover a line, as a set.
pub mod Sets
