pub mod Ranged
pub mod Bounding
pub mod ByRow
pub mod PairTable
