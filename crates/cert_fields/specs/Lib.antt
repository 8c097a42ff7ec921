pub mod Parts
pub mod Fields
pub mod Names
pub mod Numbers
pub mod Numerals
pub mod Appending
pub mod Lines
