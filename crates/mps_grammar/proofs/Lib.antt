pub mod After
mod Examples
