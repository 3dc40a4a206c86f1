-- The engine for programs in C: what handles hold, plain data as C sees it, and what calls do.
pub mod Blocks
pub mod Frames
pub mod Handle
pub mod Held
pub mod Jobs
pub mod Shapes
pub mod Surface
pub mod Worlds
