pub mod Chain
pub mod Half
pub mod Triangle
