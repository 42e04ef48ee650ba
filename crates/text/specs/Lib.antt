-- The text that shows a snapshot: numbers, runs, the lines of the text, the whole output, and how it is written piece by piece.
pub mod Numbers
pub mod Runs
pub mod Lines
pub mod Show
pub mod Output
pub mod Pieces
pub mod Walk
pub mod Calls
