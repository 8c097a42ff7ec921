pub mod Fronts
pub mod Openings
pub mod Checks
pub mod Texts
