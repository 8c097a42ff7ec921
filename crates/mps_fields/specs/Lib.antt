pub mod Words
pub mod Lines
pub mod Views
pub mod Resolved
