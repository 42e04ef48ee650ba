-- Laws about the definitions of specs/.
pub mod Clear
pub mod Bits
pub mod Parts
pub mod Plane
pub mod Tables
pub mod Cells
pub mod Joined
pub mod Marks
pub mod Scan
pub mod Added
pub mod Rows
