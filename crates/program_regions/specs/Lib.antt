pub mod Regions
pub mod Descents
