-- "A line of 256 colours": the cells that a mode reads, the plane that they make, what settles a pixel's colour, and
-- the step that settles both colour and origin.
pub mod Cells
pub mod Plane
pub mod Counted
pub mod Pixel
pub mod Origin
pub mod Painted
pub mod Addresses
