pub mod Entered
pub mod Lines
pub mod Steps
