-- Drawing a whole frame, and refreshing one.
pub mod Lines
pub mod Draw
pub mod Due
pub mod Calls
pub mod Rows
pub mod Status
