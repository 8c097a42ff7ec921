pub mod Gradients
