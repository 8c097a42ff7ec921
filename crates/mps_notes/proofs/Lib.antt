pub mod RowLemmas
pub mod RowsPushed
pub mod RowsFound
pub mod Marks
pub mod Tellings
pub mod Sound
pub mod Puts
pub mod Twice
