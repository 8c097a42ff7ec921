pub mod Ways
pub mod Columns
pub mod Bounded
pub mod Around
pub mod Grown
pub mod Onward
mod Outcomes
