-- Laws about the definitions of specs/, for this crate's proofs and for those of the crates above.
pub mod Records
pub mod Form
pub mod Filling
pub mod Refusals
pub mod Written
pub mod Accepted
pub mod Sound
pub mod Steps
pub mod Tested
