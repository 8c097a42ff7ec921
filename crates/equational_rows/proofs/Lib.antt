pub mod Chains
pub mod Appended
pub mod Gathered
pub mod Places
pub mod Columns
pub mod All
