pub mod UsedNames
pub mod Pairs
pub mod Programs
pub mod NumberSteps
pub mod EndFaults
pub mod Additions
