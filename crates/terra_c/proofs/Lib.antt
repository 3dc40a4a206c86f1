pub mod Boxes
pub mod Floats
pub mod Handles
pub mod Parts
