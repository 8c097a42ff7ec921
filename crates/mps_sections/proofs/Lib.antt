pub mod TestChains
pub mod EntryLines
pub mod SideLines
pub mod PairLines
pub mod RowLines
pub mod BoundLines
