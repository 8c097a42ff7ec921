pub mod Grids
pub mod Passes
pub mod States
pub mod Assembled
pub mod Answered
