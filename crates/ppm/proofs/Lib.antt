pub mod Laws
pub mod EndToEnd
