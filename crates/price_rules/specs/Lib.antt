pub mod ReadPrices
pub mod WritePrices
