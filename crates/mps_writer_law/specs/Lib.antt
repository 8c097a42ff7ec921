pub mod Lines
pub mod Canonical
pub mod Small
pub mod Back
