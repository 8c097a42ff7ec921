pub mod Rows
pub mod Multiples
pub mod Products
pub mod Crosses
