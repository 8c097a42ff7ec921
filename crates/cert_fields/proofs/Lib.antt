pub mod NameLemmas
pub mod Wholes
pub mod Pieces
pub mod Digits
pub mod NumberLemmas
pub mod NumberTexts
pub mod NumbersRead
pub mod NumbersBack
