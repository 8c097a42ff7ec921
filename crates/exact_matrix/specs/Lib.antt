pub mod Grid
pub mod State
pub mod Systems
pub mod Stops
