pub mod Small
pub mod Step
pub mod Operations
pub mod Worked
