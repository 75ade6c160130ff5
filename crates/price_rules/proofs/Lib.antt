pub mod PriceLaws
pub mod RoundTrip
pub mod Taken
