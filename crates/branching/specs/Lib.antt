pub mod Stops
pub mod Rays
pub mod Reaching
pub mod Decided
