mod PointLemmas
pub mod ValueLemmas
