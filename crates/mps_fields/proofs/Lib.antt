pub mod Words
pub mod WholeLines
