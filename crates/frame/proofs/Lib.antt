pub mod Laws
pub mod FullDraw
