pub mod Halves
pub mod Left
pub mod Triangles
