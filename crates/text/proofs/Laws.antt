-- Laws about the definitions of specs/, for this crate's proofs and for those of the programs.
pub mod Put
pub mod Numbers
pub mod Runs
pub mod Going
pub mod Pieces
pub mod Steps
pub mod Ranges
pub mod Reading
