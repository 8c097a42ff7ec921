pub mod Tested
pub mod Totals
