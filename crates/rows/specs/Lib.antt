-- The pattern plane, eight lines at a time, and one.
pub mod Rows
pub mod Stripes
pub mod Lines
pub mod Shown
