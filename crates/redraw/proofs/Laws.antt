-- Laws about the definitions of specs/.
pub mod Lines
pub mod Redraw
pub mod Finish
pub mod Row
pub mod Whole
pub mod Still
