pub mod Tables
pub mod Tellings
pub mod ByRows
pub mod FirstLines
pub mod GoodSides
