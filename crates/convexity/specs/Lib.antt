pub mod Reduction
pub mod ReductionCalculation
pub mod ReductionOperations
pub mod Meaning
pub mod Onto
pub mod Places
