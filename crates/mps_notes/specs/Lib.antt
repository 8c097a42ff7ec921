pub mod Names
pub mod Rows
pub mod Entries
pub mod Told
pub mod Notes
pub mod Placed
pub mod Twice
