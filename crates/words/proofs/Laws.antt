-- Laws about the definitions of specs/.
pub mod Bytes
pub mod Stored
pub mod Tables
