-- Laws about the definitions of specs/.
pub mod Cells
pub mod Within
pub mod Plane
pub mod Column
pub mod Small
pub mod Painted
pub mod Pixel
pub mod Origin
