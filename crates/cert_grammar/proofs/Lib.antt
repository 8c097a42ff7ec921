pub mod Lands
pub mod ItemFields
pub mod LinesRead
pub mod LinesBack
pub mod Counts
