-- The definitions that the contracts cite, in the order of the section "Snapshot and the show program".
pub mod Format
pub mod Tests
pub mod Calls
