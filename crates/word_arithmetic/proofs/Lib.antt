pub mod Bitwise
pub mod Twos
pub mod Differences
pub mod ModularInverses
pub mod SignedSums
