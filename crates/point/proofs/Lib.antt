pub mod Laws
pub mod AsDrawn
pub mod OwnFetches
