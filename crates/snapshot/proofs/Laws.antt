-- Laws about the definitions of specs/, for this crate's proofs and for those of the crates above.
pub mod Sums
pub mod Bytes
pub mod Parts
pub mod Filling
pub mod Refusals
pub mod Written
pub mod Accepted
pub mod Held
