-- Laws about the definitions of specs/, for this crate's proofs.
pub mod Refused
pub mod Accepted
