pub mod Sets
pub mod Steps
pub mod WorkedChain
pub mod OneChain
