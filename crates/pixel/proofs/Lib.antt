pub mod Laws
pub mod Usage
pub mod RefusedPoint
