pub mod Elimination
pub mod Answers
pub mod Operations
pub mod Calculation
pub mod Meaning
pub mod Tails
