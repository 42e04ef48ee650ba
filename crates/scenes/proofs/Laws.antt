-- A law about the definitions of specs/, for this crate's proofs.
pub mod Put
