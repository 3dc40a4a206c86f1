-- The arguments behind the program's name. The rules are this project's own.
pub mod Drill
pub mod Editing
pub mod Options
pub mod Request
