pub mod Supports
pub mod Small
pub mod Stationary
pub mod Directions
pub mod Moves
pub mod Rayless
pub mod Ends
pub mod OneStep
mod WorkedShrink
