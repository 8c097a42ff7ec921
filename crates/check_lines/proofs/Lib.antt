pub mod Zeroed
pub mod LastSet
pub mod Leaves
pub mod TextFound
