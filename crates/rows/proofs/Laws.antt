-- Laws about the definitions of specs/.
pub mod Lines
pub mod Settled
pub mod Tiles
pub mod Paints
pub mod Shown
pub mod Cells
pub mod Plane
pub mod Line
