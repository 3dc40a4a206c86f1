pub mod Absorbed
pub mod Blocks
pub mod Frame
pub mod Meshes
pub mod Patch
pub mod Seamless
pub mod Stats
