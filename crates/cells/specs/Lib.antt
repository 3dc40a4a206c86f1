pub mod Cases
pub mod Edges
pub mod Faces
