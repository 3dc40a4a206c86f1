-- What the lines of a script say, and the faults of a line. The rules are this project's own.
pub mod Commands
pub mod FaultWords
pub mod Line
pub mod Lines
pub mod Members
pub mod Reading
pub mod Values
pub mod Wording
