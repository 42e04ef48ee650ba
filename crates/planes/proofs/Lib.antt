pub mod Laws
pub mod Counted
pub mod SettledColour
pub mod AddressesFetched
