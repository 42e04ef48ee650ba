-- Laws that the claims rest on.
pub mod States
pub mod ControlWrites
pub mod Invariant
pub mod Lawful
pub mod Draws
pub mod RecordCalls
pub mod RunLog
pub mod Calls
pub mod Lent
pub mod Outcomes
pub mod Steps
