-- Shots whose vertices have normals. The rules are this project's own.
pub mod Corners
pub mod NormalText
pub mod Numbers
