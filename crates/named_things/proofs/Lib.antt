pub mod NamedLemmas
pub mod PlaceLemmas
pub mod NameLemmas
