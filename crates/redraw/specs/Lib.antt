-- Redrawing the due lines of one row of names.
pub mod Lines
pub mod Row
