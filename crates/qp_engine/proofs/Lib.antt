pub mod Ends
pub mod Judged
pub mod Solved
pub mod Shown
pub mod Enough
pub mod OneText
pub mod Accepted
