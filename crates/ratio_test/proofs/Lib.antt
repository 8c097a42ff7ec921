mod Numbers
mod CrossProducts
pub mod Ratios
