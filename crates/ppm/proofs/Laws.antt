-- Laws about the definitions of specs/, for this crate's proofs and for the program.
pub mod Paint
pub mod Start
pub mod Steps
pub mod Fewer
