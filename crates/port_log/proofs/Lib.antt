pub mod Laws
pub mod RoundTrips
