-- A line: what it reads, what it shows and where that comes from, its note, and the call that draws it.
pub mod Line
pub mod Notes
pub mod Calls
pub mod Colours
pub mod LineDraws
