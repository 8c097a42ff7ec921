pub mod Standing
pub mod Equations
pub mod Form
pub mod Optimal
pub mod Solutions
pub mod Calculation
