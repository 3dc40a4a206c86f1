-- How a wire is read to its end and its text written. The rules are this project's own.
pub mod Mirrored
pub mod Reading
pub mod Refusals
