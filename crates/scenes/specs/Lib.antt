-- Scenes: what is known of one.
pub mod Editing
pub mod Publishing
pub mod Scene
