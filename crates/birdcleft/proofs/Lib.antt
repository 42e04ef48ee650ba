pub mod Order
pub mod NoState
