-- The definitions that the contracts cite: the log's format, its records, the tests, reading and writing, the run, and what is
-- left of it at a place.
pub mod Format
pub mod Records
pub mod Tests
pub mod Calls
pub mod Single
pub mod Run
pub mod Rest
