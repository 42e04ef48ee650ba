-- Laws about the definitions of specs/.
pub mod Bits
pub mod Added
pub mod Run
pub mod Sets
pub mod Scan
