pub mod Adjoint
pub mod Taken
pub mod Between
pub mod Takes
pub mod Carried
pub mod Matrix
pub mod Onto
pub mod Residuals
pub mod FarkasBack
pub mod Forms
pub mod Equations
pub mod Scaled
pub mod Points
pub mod Gaps
pub mod Solving
pub mod BoundBack
pub mod Rays
pub mod Shapes
pub mod Calculated
mod Worked
mod WorkedBack
