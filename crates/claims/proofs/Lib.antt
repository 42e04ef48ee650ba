-- The theorems. Laws are what they rest on.
pub mod Cases
pub mod Demand3
pub mod RefreshedLines
pub mod RefusedCalls
pub mod AfterAnyCalls
pub mod LogRuns
pub mod AnyBlock
pub mod Laws
