pub mod Pairs
pub mod ColumnLemmas
