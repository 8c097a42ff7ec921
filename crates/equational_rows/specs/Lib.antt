pub mod Firsts
pub mod Built
