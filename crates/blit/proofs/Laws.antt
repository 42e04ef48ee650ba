-- Laws about the definitions of specs/.
pub mod Shifted
pub mod Wide
pub mod Meet
pub mod Columns
pub mod Paint
