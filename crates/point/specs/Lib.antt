-- The colour of one point and its origin: what the point reads, and the call that answers both.
pub mod Point
pub mod Calls
