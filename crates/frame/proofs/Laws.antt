-- Laws about the definitions of specs/.
pub mod Lines
pub mod Rows
pub mod Bits
pub mod Step
pub mod Dirty
pub mod Clean
pub mod Calls
pub mod Status
