-- Which lines are dirty, eight at a time.
pub mod Clear
pub mod Marks
pub mod Rows
pub mod Plane
pub mod Tables
