pub mod Laws
pub mod EndToEnd
pub mod FullDraw
