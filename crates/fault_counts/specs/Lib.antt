-- Counts of faults, and calls of which some are told to fail. The rules are this project's own.
pub mod Calls
pub mod Counts
