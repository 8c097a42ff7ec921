mod RegionLemmas
mod DescentLemmas
