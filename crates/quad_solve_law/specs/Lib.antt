pub mod Problems
pub mod Steps
pub mod Walk
pub mod Answer
pub mod Operations
pub mod Sites
pub mod Worked
