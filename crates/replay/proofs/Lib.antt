pub mod Laws
pub mod RefusedInput
pub mod AfterTheRun
