pub mod Sizes
pub mod Lists
pub mod Assembled
pub mod PriceSteps
