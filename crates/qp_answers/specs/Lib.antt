pub mod Said
pub mod Codes
pub mod Withheld
pub mod Answers
pub mod Outcomes
