pub mod Problem
pub mod Basis
pub mod Exchange
pub mod Lexicographic
pub mod Operations
