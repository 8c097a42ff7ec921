pub mod Assembled
pub mod Sound
pub mod Built
pub mod Finishing
