-- The definitions that the contracts cite: of numbers and lists; of the sections "State and ports" and "Refusal numbers"; and
-- of modes and tables, from which the crates that draw go on.
pub mod Bits
pub mod Lists
pub mod Ranges
pub mod TwoBytes
pub mod State
pub mod Ports
pub mod Map
pub mod Refusals
pub mod Calls
pub mod Layout
pub mod Modes
pub mod Tables
