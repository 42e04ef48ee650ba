pub mod Put
pub mod Shown
