-- The cases at the edges; then what demand 3 speaks of: a bench, its calls and their descriptions, what a step does, what can hold after it, and
-- the single calls of a run.
pub mod Cases
pub mod Bench
pub mod Call
pub mod Description
pub mod Descriptions
pub mod Step
pub mod After
pub mod SingleCalls
