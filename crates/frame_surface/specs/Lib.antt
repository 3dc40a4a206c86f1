-- What is asked of a frame's surface: where triangles lie, and the highest point over a place. The rules are this
-- project's own.
pub mod Best
pub mod Columns
pub mod Heights
pub mod Lines
pub mod Scan
pub mod Surface
pub mod Tops
pub mod Turns
