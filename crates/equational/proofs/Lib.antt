pub mod Answered
pub mod Multipliers
pub mod Pairs
pub mod Walked
pub mod Shifted
pub mod Whole
