-- What `replay` writes: its line, and both streams for any input.
pub mod Report
pub mod Streams
