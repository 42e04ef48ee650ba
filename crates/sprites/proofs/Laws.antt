-- Laws about the definitions of specs/.
pub mod Bounds
pub mod Within
pub mod Scan
pub mod Columns
pub mod Rows
pub mod Meet
pub mod Paint
pub mod Draw
pub mod Due
pub mod Found
pub mod Read
pub mod Ended
pub mod Small
pub mod Codes
