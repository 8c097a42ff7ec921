pub mod SixFields
pub mod Contents
pub mod Histories
