-- What each request of a run does. The rules are this project's own.
pub mod Drilled
pub mod Edited
pub mod Mirroring
pub mod Texts
