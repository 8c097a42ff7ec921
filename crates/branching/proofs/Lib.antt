mod NoRay
mod Halted
mod Ended
mod Reduced
mod Told
mod Pathed
pub mod OneEnding
