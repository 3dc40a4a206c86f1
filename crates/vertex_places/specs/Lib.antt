pub mod Bounds
pub mod Directions
pub mod LeafEdges
pub mod Moves
pub mod Places
