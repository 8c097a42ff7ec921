pub mod Drafts
pub mod Filled
