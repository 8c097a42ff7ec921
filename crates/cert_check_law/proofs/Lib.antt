pub mod Settled
pub mod Listed
pub mod Dots
pub mod Products
pub mod Points
pub mod Leaves
pub mod Trees
pub mod Pairs
pub mod Rays
pub mod Checks
mod WorkedChecks
mod WorkedLists
