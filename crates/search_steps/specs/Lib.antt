pub mod Trails
pub mod Incumbents
pub mod Trees
pub mod Progressing
pub mod Roundings
