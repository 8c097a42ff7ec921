mod Dots
mod Solutions
mod Turns
mod Reached
pub mod Chained
