-- Laws about the definitions of specs/, for this crate's proofs and for those of the crates above.
pub mod Lists
pub mod Stored
pub mod Ranges
pub mod TwoBytes
pub mod Bits
pub mod Refusals
pub mod State
pub mod Registers
pub mod Ready
pub mod Tables
pub mod Layout
