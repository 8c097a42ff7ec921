pub mod Lines
pub mod FieldsOf
pub mod Cases
pub mod Words
pub mod Written
pub mod Spelling
pub mod Numbers
pub mod Running
