pub mod Ratio
