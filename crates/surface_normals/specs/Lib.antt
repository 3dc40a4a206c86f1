-- The normals of keys, by the field alone. The rules are this project's own.
pub mod Ends
pub mod Inner
pub mod Normals
