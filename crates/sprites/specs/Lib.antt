-- "Sprites": the scan of a line, the pixels of a drawn sprite, and coincidence.
pub mod Shape
pub mod Scan
pub mod Pixels
pub mod Held
pub mod Rows
pub mod Codes
